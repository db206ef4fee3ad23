use Rattle.std.proofs.Common.{◌≡◌, length}
use Rattle.dns_session_lookup.specs.Adding.{with_algorithms}
use Rattle.dns_session_lookup.proofs.listing.add_algorithms.Given as goal

abbrev pub invariant-algorithms : goal.invariant-algorithms
invariant-algorithms l = with_algorithms l.verifier l.left ≡ with_algorithms l.initial.verifier l.algorithms

abbrev pub decreases-algorithms : goal.decreases-algorithms
decreases-algorithms l = length l.left
