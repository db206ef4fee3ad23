use Rattle.std.specs.Prelude.{option_map}
use Rattle.dns_rules.specs.Covering.{nsec_spans}
use Rattle.dns_denial.specs.Best.{owned_before}
use Rattle.dns_denial.proofs.Best.{IsBestOf}
use Rattle.dns_denial.proofs.covering.nearest.Given as goal

-- the best record among those that were met
abbrev pub invariant-loop-place : goal.invariant-loop-place
invariant-loop-place l = IsBestOf (nsec_spans l.name) owned_before l.nsecs l.place (option_map (λ p. (p.0, p.1.now)) l.best)
