use Rattle.std.proofs.Common.{◌≡◌, take, false}
use Rattle.std.specs.List.{list_any}
use Rattle.dns_rules.specs.Outcome.{answers_query}
use Rattle.dns_outcome.proofs.answering.has_answer.Given as goal

-- none of the records so far answers
abbrev pub invariant-loop-found : goal.invariant-loop-found
invariant-loop-found l = list_any (answers_query l.query) (take l.found-index l.answers) ≡ false
