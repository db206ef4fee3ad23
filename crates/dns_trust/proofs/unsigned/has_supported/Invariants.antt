use Rattle.std.proofs.Common.{◌≡◌, take, false}
use Rattle.std.specs.List.{list_any}
use Rattle.dns_rules.specs.Delegations.{is_supported_ds}
use Rattle.dns_trust.proofs.unsigned.has_supported.Given as goal

-- none of the records so far is supported
abbrev pub invariant-loop-read : goal.invariant-loop-read
invariant-loop-read g l =
    list_any (is_supported_ds (g.V.Verifier.answers l.verifier)) (take l.read-index l.records) ≡ false
