use Rattle.std.proofs.Common.{◌≡◌, length}
use Rattle.dns_questions.specs.Questions.{with_keys, of_key_set}
use Rattle.std.specs.List.{flat_map}
use Rattle.dns_questions.specs.Gathering.{judge_by, then_once}
use Rattle.dns_questions.proofs.sets.add_key_set.Given as goal

abbrev pub invariant-signatures : goal.invariant-signatures
invariant-signatures l =
    then_once l.into (flat_map (λ r. with_keys (judge_by l.context) l.set r l.set.records) l.left)
    ≡ then_once l.initial.into (of_key_set (judge_by l.context) l.set)

abbrev pub decreases-signatures : goal.decreases-signatures
decreases-signatures l = length l.left
