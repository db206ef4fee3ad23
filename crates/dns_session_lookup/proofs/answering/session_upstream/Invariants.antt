use Rattle.std.proofs.Common.{◌≡◌}
use Rattle.dns_session_lookup.specs.Answering.{recorded_by}
use Rattle.dns_session_lookup.proofs.answering.session_upstream.Given as goal

abbrev pub invariant-loop-next : goal.invariant-loop-next
invariant-loop-next l = l.handle ≡ recorded_by l.by_turn l.yielded
