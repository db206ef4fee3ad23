use Rattle.std.proofs.Common.{◌≡◌, true, take}
use Rattle.std.specs.Prelude.{not, ◌||◌}
use Rattle.std.specs.List.{list_all}
use Rattle.dns_rules.specs.Denying.{is_denying_as}
use Rattle.dns_rules.specs.Outcome.{is_made_by}
use Rattle.dns_denying.proofs.denying.are_made_by.Given as goal

-- the zone made those of the sets so far
abbrev pub invariant-loop-set : goal.invariant-loop-set
invariant-loop-set l =
    list_all (λ c. not (is_denying_as l.record_type.0 c.judged) || is_made_by l.zone c.judged) (take l.set-index l.sets)
    ≡ true
