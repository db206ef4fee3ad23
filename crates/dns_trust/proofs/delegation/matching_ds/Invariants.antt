use Rattle.std.proofs.Common.{◌≡◌, ◌-◌, ◌≤◌, drop, take}
use Rattle.std.specs.List.{filter, find}
use Rattle.dns_model.specs.Keys.{ds_covers_key}
use Rattle.dns_rules.specs.Delegations.{is_ds_for, matching_ds}
use Rattle.dns_trust.proofs.delegation.matching_ds.Given as goal

-- the search goes on among those that count of the records that are left
abbrev pub invariant-loop-ds : goal.invariant-loop-ds
invariant-loop-ds g l =
    (l.counted ≤ 2)
    × (find (λ r. ds_covers_key (g.V.Verifier.answers l.verifier) l.owner l.key.rdata r.rdata)
    (take (2 - l.counted) (filter (is_ds_for l.owner l.key) (drop l.ds-index l.records)))
    ≡ matching_ds (g.V.Verifier.answers l.verifier) l.owner l.key l.records)
