use Rattle.std.proofs.Common.{◌≡◌, ◌++◌, take, map, true}
use Rattle.std.specs.List.{flat_map, list_all}
use Rattle.dns_report.specs.TrailView.{step_view, fitting_step}
use Rattle.dns_report.specs.TrailLines.{step_text}
use Rattle.dns_report.proofs.trail.push_steps.Given as goal

abbrev pub invariant-loop-step : goal.invariant-loop-step
invariant-loop-step l =
    (l.into.items ≡ l.initial.into.items ++ flat_map step_text (map step_view (take l.step-index l.steps)))
    × (list_all fitting_step (map step_view (take l.step-index l.steps)) ≡ true)
