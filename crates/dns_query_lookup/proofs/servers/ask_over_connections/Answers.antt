use Rattle.std.proofs.Common.{rules}
use Rattle.dns_query_lookup.proofs.servers.ask_over_connections.Goals as goal

pub returns : goal.returns
returns g c = record {
  only = c.new-only.result;
  connects = search rules;
  asks = c.ask_below.ensures;
}
