use Rattle.std.proofs.Common.{vec_len}
use Rattle.dns_rules.specs.ChainedSets.{bare}
use Rattle.dns_trail.specs.StepContexts.{step_context_by}
use Rattle.dns_trail.proofs.EntryLemmas.{AreLeft}
use Rattle.dns_trail.proofs.entries.judged_sets.Given as goal

-- the sets that are left, last first, decide
abbrev pub invariant-sets : goal.invariant-sets
invariant-sets g l =
    AreLeft (step_context_by g.V.Verifier.answers l.context) l.fn.placed.items l.placed.items l.fn.entries l.entries
    (bare l.sets.items)

abbrev pub decreases-sets : goal.decreases-sets
decreases-sets g l = vec_len l.placed
