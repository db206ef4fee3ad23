use Rattle.std.proofs.Common.{◌≡◌, take, false}
use Rattle.std.specs.Prelude.{◌||◌}
use Rattle.std.specs.List.{list_any}
use Rattle.dns_rules.specs.Delegations.{shows_no_ds, is_insecure_above}
use Rattle.dns_trust.proofs.unsigned.is_insecure_without_ds.Given as goal

-- none of the sets so far shows it
abbrev pub invariant-loop-set : goal.invariant-loop-set
invariant-loop-set l =
    list_any (λ c. shows_no_ds l.zone c.judged || is_insecure_above l.zone c.judged) (take l.set-index l.sets) ≡ false
