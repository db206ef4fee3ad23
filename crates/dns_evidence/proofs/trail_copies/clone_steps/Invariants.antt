use Rattle.std.proofs.Common.{◌≡◌, take}
use Rattle.dns_evidence.proofs.trail_copies.clone_steps.Given as goal

-- the steps so far are in the copy
abbrev pub invariant-loop-step : goal.invariant-loop-step
invariant-loop-step l = l.all.items ≡ take l.step-index l.steps.items
