use Rattle.std.proofs.Common.{◌≡◌, drop}
use Rattle.std.specs.List.{find}
use Rattle.dns_model.specs.Keys.{ds_covers_key}
use Rattle.dns_trust.specs.Delegating.{shown}
use Rattle.dns_trust.proofs.delegation.first_match.Given as goal

-- the search goes on among the records that are left
abbrev pub invariant-loop-ds : goal.invariant-loop-ds
invariant-loop-ds g l =
    find (λ r. ds_covers_key (g.V.Verifier.answers l.verifier) l.owner l.key.rdata r.rdata) (drop l.ds-index (shown l.records))
    ≡ find (λ r. ds_covers_key (g.V.Verifier.answers l.verifier) l.owner l.key.rdata r.rdata) (shown l.records)
