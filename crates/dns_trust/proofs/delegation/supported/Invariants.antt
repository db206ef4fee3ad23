use Rattle.std.proofs.Common.{◌≡◌, take}
use Rattle.std.specs.List.{filter}
use Rattle.dns_rules.specs.Delegations.{is_supported_ds}
use Rattle.dns_trust.specs.Delegating.{shown}
use Rattle.dns_trust.proofs.delegation.supported.Given as goal

-- those of the records so far that are supported are shown
abbrev pub invariant-loop-ds : goal.invariant-loop-ds
invariant-loop-ds g l =
    shown l.supported.items ≡ filter (is_supported_ds (g.V.Verifier.answers l.verifier)) (take l.ds-index l.records)
