-- What the judged sets of a step come to: by themselves, or by the zone of its question.
use Rattle.std.proofs.Common.{◌≢◌, List, sym, ◌∙◌}
use Rattle.dns_model.specs.declared.trail.AskRef.{AskRef}
use Rattle.dns_model.specs.SoundAnswers.{Told}
use Rattle.dns_rules.specs.Delegations.{ZoneVerdict, Signed, Insecure, Bogus}
use Rattle.dns_rules.specs.Derivation.{StepContext}
use Rattle.dns_rules.specs.MarkedSets.{MarkedSet}
use Rattle.dns_rules.specs.Outcome.{Outcome, NeedsZone, outcome_by_zone}
use Rattle.dns_flow.specs.Endings.{IsStepEnd, Settled, LeftToZone}

-- a zone decides
decides : (g : StepContext) (told : Told) (zone : ZoneVerdict) → outcome_by_zone g.query told zone ≢ NeedsZone
decides g told (Signed ds) = λ h. cc
decides g told (Insecure kind) = λ h. cc
decides g told (Bogus kind) = λ h. cc

-- no search is left
pub never_searched : (g : StepContext) (told : Told) (sets : List MarkedSet) (o : Outcome) (excuse : List AskRef)
    → IsStepEnd g told sets o excuse → o ≢ NeedsZone
never_searched g told sets o excuse (Settled by settled none) = settled
never_searched g told sets o excuse (LeftToZone zone left found by) = λ is. decides g told zone (sym by ∙ is)
