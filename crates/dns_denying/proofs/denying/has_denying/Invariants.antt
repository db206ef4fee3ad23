use Rattle.std.proofs.Common.{◌≡◌, take, false}
use Rattle.std.specs.List.{list_any}
use Rattle.dns_rules.specs.Denying.{is_denying_as}
use Rattle.dns_denying.proofs.denying.has_denying.Given as goal

-- none of the sets so far denies existence
abbrev pub invariant-loop-set : goal.invariant-loop-set
invariant-loop-set l = list_any (λ c. is_denying_as l.record_type.0 c.judged) (take l.set-index l.sets) ≡ false
