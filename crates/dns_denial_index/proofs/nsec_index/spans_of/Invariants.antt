use Rattle.std.proofs.Common.{◌≡◌, ◌++◌, length}
use Rattle.dns_denial_index.specs.NsecParts.{paired}
use Rattle.dns_denial_index.proofs.nsec_index.spans_of.Given as goal

-- the spans so far, and those of the places that are left
abbrev pub invariant-pairs : goal.invariant-pairs
invariant-pairs l = l.spans.items ++ paired l.left ≡ paired l.places

abbrev pub decreases-pairs : goal.decreases-pairs
decreases-pairs l = length l.left
