use Rattle.std.proofs.Common.{◌≡◌, drop}
use Rattle.std.specs.Prelude.{◌==◌, not}
use Rattle.std.specs.List.{find}
use Rattle.dns_outcome.proofs.outcome.first_foreign.Given as goal

-- the search goes on among the records that are left
abbrev pub invariant-loop-found : goal.invariant-loop-found
invariant-loop-found l =
    find (λ r. not (r.class == l.class.0)) (drop l.found-index l.records)
    ≡ find (λ r. not (r.class == l.class.0)) l.records
