use Rattle.std.proofs.Common.{◌≡◌, ◌++◌, drop}
use Rattle.dns_query_answer.specs.AnswerText.{record_lines}
use Rattle.dns_query_answer.proofs.record_lines.push_records.Given as goal

-- the lines so far, and those of the records that are left, are those of all
abbrev pub invariant-loop-one : goal.invariant-loop-one
invariant-loop-one l =
    l.into.items ++ record_lines (drop l.one-index l.records) ≡ l.initial.into.items ++ record_lines l.records
