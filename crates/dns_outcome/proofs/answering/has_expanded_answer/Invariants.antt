use Rattle.std.proofs.Common.{◌≡◌, take, false}
use Rattle.std.specs.List.{list_any}
use Rattle.dns_rules.specs.Outcome.{is_expanded_answer}
use Rattle.dns_outcome.proofs.answering.has_expanded_answer.Given as goal

-- none of the sets so far was expanded
abbrev pub invariant-loop-set : goal.invariant-loop-set
invariant-loop-set l = list_any (λ c. is_expanded_answer c.judged) (take l.set-index l.sets) ≡ false
