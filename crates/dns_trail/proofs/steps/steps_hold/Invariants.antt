use Rattle.std.proofs.Common.{◌-◌, length}
use Rattle.dns_rules.specs.CacheEntries.{live}
use Rattle.dns_trust.specs.Judge.{judge_of}
use Rattle.dns_trail.proofs.StepLemmas.{AreSteps}
use Rattle.dns_trail.proofs.steps.steps_hold.Given as goal

-- the steps that are left decide
abbrev pub invariant-steps : goal.invariant-steps
invariant-steps g l =
    AreSteps (judge_of g.V.Verifier.answers l.judge) l.limits (live l.judge.moment l.cached) l.steps l.number l.ended.items
