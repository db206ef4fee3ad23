use Rattle.std.proofs.Common.{◌≡◌}
use Rattle.dns_session_lookup.specs.Adding.{with_accepts}
use Rattle.dns_session_lookup.proofs.listing.add_accepts.Given as goal

abbrev pub invariant-loop-next : goal.invariant-loop-next
invariant-loop-next l = l.verifier ≡ with_accepts l.initial.verifier l.yielded
