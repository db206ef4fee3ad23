use Rattle.dns_multiplexer.proofs.LawLemmas.{event_more}
use Rattle.dns_multiplexer.proofs.laws.calls_are_events.Goals as goal

pub returns : goal.returns
returns c = event_more
