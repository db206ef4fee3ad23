use Rattle.std.proofs.Common.{◌≡◌}
use Rattle.dns_marks.proofs.SetLemmas.{failed_from}
use Rattle.dns_marks.proofs.set_mark.first_failed.Given as goal

-- the search goes on among the answers that are left
abbrev pub invariant-loop-answer : goal.invariant-loop-answer
invariant-loop-answer l = failed_from l.answers l.answer-index ≡ failed_from l.answers 0
