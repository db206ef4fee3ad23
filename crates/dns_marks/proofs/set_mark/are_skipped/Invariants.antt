use Rattle.std.proofs.Common.{◌≡◌, true, take}
use Rattle.std.specs.List.{list_all}
use Rattle.dns_marks.specs.SetMarks.{is_skipped_answer}
use Rattle.dns_marks.proofs.set_mark.are_skipped.Given as goal

-- none of the asks so far was made
abbrev pub invariant-loop-answer : goal.invariant-loop-answer
invariant-loop-answer l = list_all is_skipped_answer (take l.answer-index l.answers) ≡ true
