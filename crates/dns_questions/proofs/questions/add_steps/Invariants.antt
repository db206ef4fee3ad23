use Rattle.std.proofs.Common.{◌≡◌, length}
use Rattle.dns_questions.specs.Questions.{of_step}
use Rattle.std.specs.List.{flat_map}
use Rattle.dns_questions.specs.Gathering.{judge_by, steps_of, then_once}
use Rattle.dns_questions.proofs.questions.add_steps.Given as goal

abbrev pub invariant-steps : goal.invariant-steps
invariant-steps l =
    then_once l.into (flat_map (of_step (judge_by l.context) (steps_of l.context)) l.left)
    ≡ then_once l.initial.into (flat_map (of_step (judge_by l.context) (steps_of l.context)) (steps_of l.context))

abbrev pub decreases-steps : goal.decreases-steps
decreases-steps l = length l.left
