use Rattle.std.proofs.Common.{◌≡◌, length, map}
use Rattle.dns_rules.specs.ChainedSets.{bare_verdicts}
use Rattle.dns_rules.specs.Derivation.{verdicts_by}
use Rattle.dns_trust.specs.Verdicts.{verdict_value}
use Rattle.dns_trail.specs.StepContexts.{step_context_by}
use Rattle.dns_trail.specs.Trying.{behind}
use Rattle.dns_trail.proofs.verdicts.verdicts_by.Given as goal

-- the verdicts so far, and those of the signatures that are left
abbrev pub invariant-signatures : goal.invariant-signatures
invariant-signatures g l =
    behind (bare_verdicts (map verdict_value l.verdicts.items))
    (verdicts_by (step_context_by g.V.Verifier.answers l.context) l.set l.signatures l.asks)
    ≡ verdicts_by (step_context_by g.V.Verifier.answers l.context) l.set l.fn.signatures l.fn.asks

abbrev pub decreases-signatures : goal.decreases-signatures
decreases-signatures g l = length l.signatures
