use Rattle.std.proofs.Common.{length}
use Rattle.dns_model.specs.SoundAnswers.{told_by}
use Rattle.dns_causes.specs.Contexts.{context_by}
use Rattle.dns_causes.specs.Values.{kinds_of}
use Rattle.dns_causes.proofs.StepLemmas.{AreFound}
use Rattle.dns_causes.proofs.causes.set_causes.Given as goal

-- the causes so far, and what was given so far, are completed by the sets that are left
abbrev pub invariant-sets : goal.invariant-sets
invariant-sets g l =
    AreFound (context_by g.V.Verifier.answers l.context) l.context.given.now (told_by l.message) l.placed l.entries
    l.left l.right (kinds_of l.causes.items) l.given

abbrev pub decreases-sets : goal.decreases-sets
decreases-sets g l = length l.left
