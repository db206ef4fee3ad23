use Rattle.std.proofs.Common.{◌≡◌, length}
use Rattle.dns_questions.specs.Questions.{of_sets}
use Rattle.dns_questions.specs.Gathering.{judge_by, steps_of, then_once}
use Rattle.dns_questions.proofs.questions.add_sets.Given as goal

abbrev pub invariant-sets : goal.invariant-sets
invariant-sets l =
    then_once l.into (of_sets (judge_by l.context) (steps_of l.context) l.query l.left l.right)
    ≡ then_once l.initial.into (of_sets (judge_by l.context) (steps_of l.context) l.query l.placed l.entries)

abbrev pub decreases-sets : goal.decreases-sets
decreases-sets l = length l.left
