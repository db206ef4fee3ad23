use Rattle.dns_trust.specs.Judge.{judge_of}
use Rattle.dns_causes.specs.Values.{kinds_by_step}
use Rattle.dns_causes.proofs.StepLemmas.{AreCauses}
use Rattle.dns_causes.proofs.causes.steps_causes.Given as goal

-- the causes so far and those of the steps that are left are those of all
abbrev pub invariant-steps : goal.invariant-steps
invariant-steps g l =
    AreCauses (judge_of g.V.Verifier.answers l.judge) l.limits l.steps l.number l.given.items
    (kinds_by_step l.found.items)
