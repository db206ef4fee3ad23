use Rattle.std.proofs.Common.{rules}
use Rattle.dns_query_lookup.proofs.servers.ask_by_datagrams.Goals as goal

pub returns : goal.returns
returns g c = record {
  both = c.new.result;
  first = search rules;
  second = search rules;
  asks = c.ask_below.ensures;
}
