use Rattle.std.proofs.Common.{◌≡◌, length}
use Rattle.dns_model.specs.Names.{common_ancestor}
use Rattle.dns_denial.specs.Common.{common_from}
use Rattle.dns_denial.proofs.encloser.common_of_aligned.Given as goal

-- what the names have in common is told by the labels that are left
abbrev pub invariant-labels : goal.invariant-labels
invariant-labels l = (common_from l.left l.right l.common ≡ common_ancestor l.one l.two) ×
    (length l.left ≡ length l.right)

abbrev pub decreases-labels : goal.decreases-labels
decreases-labels l = length l.left
