-- How a step has ended (RFC 4035, 4.3 and 5.2): by what its judged sets come to, or by the zone of its question.
use Rattle.std.specs.Prelude.{◌≡◌, ◌≢◌, List, [], Some}
use Rattle.dns_model.specs.declared.trail.AskRef.{AskRef}
use Rattle.dns_model.specs.SoundAnswers.{Told}
use Rattle.dns_rules.specs.Delegations.{ZoneVerdict}
use Rattle.dns_rules.specs.Derivation.{StepContext, search_from}
use Rattle.dns_rules.specs.MarkedSets.{MarkedSet}
use Rattle.dns_rules.specs.Outcome.{Outcome, NeedsZone, outcome_of, outcome_by_zone}
use Rattle.dns_rules.specs.Unsigned.{question_start}

-- the outcome of a step whose sets are judged, and the asks that it makes for that: none where its sets decide, else those of the
-- search for the zone of its question, which decides
pub data IsStepEnd (g : StepContext) (told : Told) (sets : List MarkedSet) (o : Outcome) (asks : List AskRef) : Type 0 where
  Settled : o ≡ outcome_of g.limits g.query told sets → o ≢ NeedsZone → asks ≡ [] → IsStepEnd g told sets o asks
  LeftToZone : (zone : ZoneVerdict) → outcome_of g.limits g.query told sets ≡ NeedsZone
      → search_from g g.query.class (question_start g.query) asks ≡ Some zone → o ≡ outcome_by_zone g.query told zone → IsStepEnd g told sets o asks
