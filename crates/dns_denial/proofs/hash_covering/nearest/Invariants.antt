use Rattle.std.specs.Prelude.{option_map}
use Rattle.dns_rules.specs.Nsec3Covering.{nsec3_spans, is_farther}
use Rattle.dns_denial.proofs.Best.{IsBestOf}
use Rattle.dns_denial.proofs.hash_covering.nearest.Given as goal

-- the nearest record among those that were met
abbrev pub invariant-loop-place : goal.invariant-loop-place
invariant-loop-place l = IsBestOf (nsec3_spans l.hash) (is_farther l.hash) l.nsec3s l.place
    (option_map (λ p. (p.0, p.1.now)) l.best)
