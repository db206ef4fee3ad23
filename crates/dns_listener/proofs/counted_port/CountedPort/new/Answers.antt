use Rattle.dns_listener.proofs.TrafficLemmas.{none_since}
use Rattle.dns_listener.proofs.counted_port.CountedPort.new.Goals as goal

pub returns-clause-silent : goal.returns-clause-silent
returns-clause-silent g c = record {
  received = rw c.new.ensures (none_since (g.P.Port.received c.args.port));
  replied = none_since (g.P.Port.replied c.args.port);
}
