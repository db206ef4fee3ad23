use Rattle.std.proofs.Common.{◌≡◌, ◌++◌, length}
use Rattle.dns_causes.specs.CausesText.{step_lines}
use Rattle.dns_causes.specs.Values.{kinds_of}
use Rattle.dns_causes.proofs.text.push_step.Given as goal

-- the lines so far and those of the sets that are left are those of all
abbrev pub invariant-sets : goal.invariant-sets
invariant-sets l =
    l.into.items ++ step_lines l.step l.left (kinds_of l.right)
    ≡ l.initial.into.items ++ step_lines l.step l.sets (kinds_of l.causes)

abbrev pub decreases-sets : goal.decreases-sets
decreases-sets l = length l.left
