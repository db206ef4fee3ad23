use Rattle.std.proofs.Common.{◌≡◌, ◌++◌, drop}
use Rattle.std.specs.List.{flat_map}
use Rattle.dns_questions.specs.QuestionsText.{accept_text}
use Rattle.dns_questions.proofs.text.push_questions.Given as goal

-- the lines so far, and those of the questions that are left, are those of all
abbrev pub invariant-loop-question : goal.invariant-loop-question
invariant-loop-question l =
    l.into.items ++ flat_map accept_text (drop l.question-index l.questions)
    ≡ l.initial.into.items ++ flat_map accept_text l.questions
