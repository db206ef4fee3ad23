-- The ending that the search for the zone of a query leads to.
use Rattle.std.proofs.Common.{◌≡◌, false, List, Option, None, Some, refl, sym, ap, ◌∙◌}
use Rattle.std.specs.Option.{option_map, option_map_or}
use Rattle.dns_model.specs.declared.proof.Proof.{Proof}
use Rattle.dns_model.specs.declared.trail.AskRef.{AskRef}
use Rattle.dns_model.specs.Records.{Question}
use Rattle.dns_model.specs.SoundAnswers.{Told}
use Rattle.dns_model.specs.Trails.{AskedValue, EndingValue}
use Rattle.dns_rules.specs.Delegations.{ZoneVerdict, is_insecure}
use Rattle.dns_rules.specs.Derivation.{StepContext, ending_by, ending_eq, ending_holds, search_from}
use Rattle.dns_rules.specs.Outcome.{Outcome, Given, NeedsZone, outcome_by_zone}
use Rattle.dns_rules.specs.Outcome as outcome
use Rattle.dns_rules.specs.Unsigned.{question_start}
use Rattle.dns_trail.specs.Endings.{ending_fits}
use Rattle.dns_trail.specs.Trying.{zone_proof}

zone_ends : (q : Question) (told : Told) (o : Option ZoneVerdict) (mark : Proof) (out : Outcome) (ending : EndingValue)
    → Some mark ≡ option_map zone_proof o
    → ((zone : ZoneVerdict) → is_insecure mark ≡ is_insecure (zone_proof zone) → out ≡ outcome_by_zone q told zone)
    → ending_eq (ending_by out) ending ≡ option_map_or (λ zone. ending_eq (ending_by (outcome_by_zone q told zone)) ending) o false
zone_ends q told None mark out ending found by = cc
zone_ends q told (Some zone) mark out ending found by =
    let same : mark ≡ zone_proof zone = cc in
    ap (λ x. ending_eq (ending_by x) ending) (by zone (ap is_insecure same))

zone_lost : (q : Question) (told : Told) (o : Option ZoneVerdict) (ending : EndingValue)
    → None ≡ option_map zone_proof o
    → false ≡ option_map_or (λ zone. ending_eq (ending_by (outcome_by_zone q told zone)) ending) o false
zone_lost q told None ending lost = refl
zone_lost q told (Some zone) ending lost = cc

-- a search that comes to something
pub searched : (g : StepContext) (told : Told) (o : Outcome) (mark : Proof) (out : Outcome) (ending : EndingValue)
    (excuse : List AskRef)
    → o ≡ NeedsZone → Some mark ≡ option_map zone_proof (search_from g g.query.class (question_start g.query) excuse)
    → ((zone : ZoneVerdict) → is_insecure mark ≡ is_insecure (zone_proof zone) → out ≡ outcome_by_zone g.query told zone)
    → ending_eq (ending_by out) ending ≡ ending_fits g told o ending excuse
searched g told o mark out ending excuse is found by =
    zone_ends g.query told (search_from g g.query.class (question_start g.query) excuse) mark out ending found by
    ∙ ap (λ x. ending_fits g told x ending excuse) (sym is)

-- one that doesn't
pub unsearched : (g : StepContext) (told : Told) (o : Outcome) (ending : EndingValue) (excuse : List AskRef)
    → o ≡ NeedsZone → None ≡ option_map zone_proof (search_from g g.query.class (question_start g.query) excuse)
    → false ≡ ending_fits g told o ending excuse
unsearched g told o ending excuse is lost =
    zone_lost g.query told (search_from g g.query.class (question_start g.query) excuse) ending lost
    ∙ ap (λ x. ending_fits g told x ending excuse) (sym is)

-- the ending of a step by its parts
pub by_parts : (g : StepContext) (step : AskedValue) (told : Told) (o : Outcome) → g.query ≡ step.query
    → ending_fits g told o step.ending step.excuse ≡ ending_holds g step told o
by_parts g step told (Given d) own = refl
by_parts g step told (outcome.Denied proof) own = refl
by_parts g step told NeedsZone own =
    ap (λ q. option_map_or (λ zone. ending_eq (ending_by (outcome_by_zone q told zone)) step.ending)
    (search_from g q.class (question_start q) step.excuse) false) own
