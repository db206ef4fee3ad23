use Rattle.std.proofs.Common.{◌≡◌, ◌+◌, ◌++◌, length}
use Rattle.dns_causes.specs.Values.{kinds_of}
use Rattle.dns_query_answer.specs.AnswerText.{sentences_from}
use Rattle.dns_query_answer.specs.PlaceValues.{explained_by}
use Rattle.dns_query_answer.proofs.sentences.push_sentences.Given as goal

-- the sentences so far, and those of the sets that are left, are those of all; and sets are counted
abbrev pub invariant-sets : goal.invariant-sets
invariant-sets l =
    (l.into.items ++ sentences_from (explained_by l.context) l.step (kinds_of l.causes) l.number l.left
    ≡ l.initial.into.items ++ sentences_from (explained_by l.context) l.step (kinds_of l.causes) 0 l.step.sets) ×
    (l.number + length l.left ≡ length l.step.sets)

abbrev pub decreases-sets : goal.decreases-sets
decreases-sets l = length l.left
