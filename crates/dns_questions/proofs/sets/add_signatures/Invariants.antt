use Rattle.std.proofs.Common.{◌≡◌, length, take}
use Rattle.dns_questions.specs.Questions.{of_signatures}
use Rattle.dns_rules.specs.Marks.{most_signatures}
use Rattle.dns_questions.specs.Gathering.{judge_by, steps_of, then_once}
use Rattle.dns_questions.proofs.sets.add_signatures.Given as goal

abbrev pub invariant-signatures : goal.invariant-signatures
invariant-signatures l =
    then_once l.into (of_signatures (judge_by l.context) (steps_of l.context) l.query l.set l.left l.asks)
    ≡ then_once l.initial.into (of_signatures (judge_by l.context) (steps_of l.context) l.query l.set
    (take most_signatures l.set.signatures) l.asked)

abbrev pub decreases-signatures : goal.decreases-signatures
decreases-signatures l = length l.left
