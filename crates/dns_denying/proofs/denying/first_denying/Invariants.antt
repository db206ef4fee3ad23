use Rattle.std.proofs.Common.{◌≡◌, drop}
use Rattle.std.specs.List.{find}
use Rattle.dns_rules.specs.Denying.{is_denying_as}
use Rattle.dns_denying.proofs.denying.first_denying.Given as goal

-- the search goes on among the sets that are left
abbrev pub invariant-loop-set : goal.invariant-loop-set
invariant-loop-set l =
    find (λ c. is_denying_as l.record_type.0 c.judged) (drop l.set-index l.sets)
    ≡ find (λ c. is_denying_as l.record_type.0 c.judged) l.sets
