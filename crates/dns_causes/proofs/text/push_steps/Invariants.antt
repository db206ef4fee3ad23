use Rattle.std.proofs.Common.{◌≡◌, ◌++◌, drop}
use Rattle.dns_causes.specs.CausesText.{causes_text}
use Rattle.dns_causes.specs.Values.{kinds_by_step}
use Rattle.dns_causes.proofs.text.push_steps.Given as goal

-- the lines so far and those of the steps that are left are those of all
abbrev pub invariant-steps : goal.invariant-steps
invariant-steps l =
    l.into.items ++ causes_text l.number (drop l.number l.steps) (kinds_by_step l.left)
    ≡ l.initial.into.items ++ causes_text 0 l.steps (kinds_by_step l.causes)
