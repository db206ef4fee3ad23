use Rattle.std.proofs.Common.{◌≡◌, ◌++◌, length}
use Rattle.dns_causes.proofs.MarkedLemmas.{marked_by}
use Rattle.dns_causes.proofs.marked.marked_sets.Given as goal

-- the sets so far and those that are left are all
abbrev pub invariant-sets : goal.invariant-sets
invariant-sets l = l.sets.items ++ marked_by l.left l.right ≡ marked_by l.placed l.entries

abbrev pub decreases-sets : goal.decreases-sets
decreases-sets l = length l.left
