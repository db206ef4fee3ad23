use Rattle.std.proofs.Common.{◌≡◌}
use Rattle.dns_session_lookup.specs.Adding.{trusted_by}
use Rattle.dns_session_lookup.proofs.answering.session_anchors.Given as goal

abbrev pub invariant-loop-next : goal.invariant-loop-next
invariant-loop-next l = l.trusted ≡ trusted_by l.yielded
