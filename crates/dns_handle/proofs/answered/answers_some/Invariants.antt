use Rattle.std.proofs.Common.{◌≡◌, false, take}
use Rattle.std.specs.List.{list_any}
use Rattle.dns_handle.specs.AnswerIndex.{answered_by, has_at}
use Rattle.dns_handle.proofs.answered.answers_some.Given as goal

-- no question so far is answered
abbrev pub invariant-loop-query : goal.invariant-loop-query
invariant-loop-query l = list_any (answered_by (has_at l.index)) (take l.query-index l.queries) ≡ false
