-- The ending of a judged step: without an excuse where its sets and their signatures decide, and else by the search that it names.
use Rattle.std.proofs.Common.{◌≡◌, true, Some, refl, ap, ◌∙◌}
use Rattle.std.proofs.lemmas.Bool.{and_from}
use Rattle.dns_model.specs.Trails.{AskedValue, Answered, Denied}
use Rattle.dns_model.specs.SoundAnswers.{Told}
use Rattle.dns_rules.specs.Delegations.{ZoneVerdict}
use Rattle.dns_rules.specs.Unsigned.{question_start, is_empty}
use Rattle.dns_rules.specs.Outcome.{Outcome, outcome_by_zone}
use Rattle.dns_rules.specs.Outcome as outcome
use Rattle.dns_rules.specs.Derivation.{StepContext, search_from, ending_eq, ending_holds}
use Rattle.dns_rules.specs.DerivationParts.{is_ending, ends_by_search}

-- the ending of an outcome for which no zone is searched
pub ending_without : (g : StepContext) (step : AskedValue) (told : Told) (o : Outcome) → (o ≡ outcome.NeedsZone → ⊥)
    → is_ending o step.ending ≡ true
    → is_empty step.excuse ≡ true → ending_holds g step told o ≡ true
ending_without g step told (outcome.Given d) never ends none =
    and_from (ending_eq (Answered d) step.ending) (is_empty step.excuse) ends none
ending_without g step told outcome.NeedsZone never ends none = absurd (never refl)
ending_without g step told (outcome.Denied proof) never ends none =
    and_from (ending_eq (Denied proof) step.ending) (is_empty step.excuse) ends none

-- and of one for which the excuse names the search
pub ending_by_search : (g : StepContext) (step : AskedValue) (told : Told) (zone : ZoneVerdict)
    → search_from g step.query.class (question_start step.query) step.excuse ≡ Some zone
    → is_ending (outcome_by_zone step.query told zone) step.ending ≡ true → ending_holds g step told outcome.NeedsZone ≡ true
ending_by_search g step told zone found ends = ap (ends_by_search step told) found ∙ ends
