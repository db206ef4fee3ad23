-- What a derivation shows of denied names and of expansions: each judged step that ends with an answer shows what it denies.
use Rattle.std.proofs.Common.{◌≡◌, inl, inr, true, List, [], ◌∷◌, ◌++◌, Option, None, Some, if◌then◌else◌, refl, sym, ap, ◌∙◌, subst}
use Rattle.std.specs.Option.{option_map_or}
use Rattle.std.specs.List.{AllByRecursion}
use Rattle.std.proofs.lemmas.Bool.{and_parts}
use Rattle.dns_model.specs.declared.proof.Proof.TheVariants.{Insecure}
use Rattle.dns_model.specs.declared.denial.Denial.{Denial}
use Rattle.dns_model.specs.declared.denial.Denial.TheVariants as denied
use Rattle.dns_model.specs.Records.{Rr, Question}
use Rattle.dns_model.specs.Chains.{Judge}
use Rattle.dns_model.specs.SoundAnswers.{Told}
use Rattle.dns_model.specs.Trails.{AskedValue, Answered, Denied, Foreign}
use Rattle.dns_rules.specs.Asking.{Limits, effective, judged_part}
use Rattle.dns_rules.specs.Delegations as delegation
use Rattle.dns_rules.specs.Delegations.{ZoneVerdict}
use Rattle.dns_rules.specs.Unsigned.{question_start, is_empty}
use Rattle.dns_rules.specs.Outcome as outcome
use Rattle.dns_rules.specs.Outcome.{Outcome, outcome_of, outcome_by_zone, has_answer, foreign_record}
use Rattle.dns_rules.specs.CacheEntries.{EntryValue}
use Rattle.dns_rules.specs.Derivation.{StepContext, search_from, denial_eq, ending_eq, ending_by, ending_holds, entries_hold, with_entries, judged_sets, step_holds, steps_hold, derivation}
use Rattle.dns_rules.specs.DerivationParts.{step_context_of, is_bare, judged_holds, ends_by_search}
use Rattle.dns_rules.proofs.DerivedLemmas.{derivation_parts}
use Rattle.dns_rules.proofs.ExtendLemmas.{proof_same}
use Rattle.dns_laws.specs.Denials.{ShowsDenial, StepDenies, HasDenials}
use Rattle.dns_laws.proofs.StraightStepLemmas.{judged_step}
use Rattle.dns_laws.proofs.ToldSetLemmas.{judged_told}
use Rattle.dns_laws.proofs.DeniedOutcomes.{LeadsTo, IsPlain, insecure_is_plain, outcome_shows}

-- ---- the outcome by the ending

denial_same : (c d : Denial) → denial_eq c d ≡ true → c ≡ d
denial_same denied.None denied.None h = refl
denial_same denied.None (denied.Absent b) h = cc
denial_same denied.None (denied.Expanded b) h = cc
denial_same (denied.Absent a) denied.None h = cc
denial_same (denied.Absent a) (denied.Absent b) h = ap denied.Absent (proof_same a b h)
denial_same (denied.Absent a) (denied.Expanded b) h = cc
denial_same (denied.Expanded a) denied.None h = cc
denial_same (denied.Expanded a) (denied.Absent b) h = cc
denial_same (denied.Expanded a) (denied.Expanded b) h = ap denied.Expanded (proof_same a b h)

-- a search shows no Secure denial
zone_step : (q : Question) (told : Told) (found : ZoneVerdict) (d : Denial)
    → ending_eq (ending_by (outcome_by_zone q told found)) (Answered d) ≡ true
    → IsPlain (has_answer q told) d
zone_step q told (delegation.Signed ds) d h = cc
zone_step q told (delegation.Insecure kind) d h =
    let answer = if has_answer q told then denied.None else denied.Absent Insecure in
    subst (IsPlain (has_answer q told)) (denial_same answer d h) (insecure_is_plain (has_answer q told))
zone_step q told (delegation.Bogus kind) d h = cc

search_step : (step : AskedValue) (told : Told) (d : Denial) (found : Option ZoneVerdict)
    → ends_by_search step told found ≡ true → step.ending ≡ Answered d
    → IsPlain (has_answer step.query told) d
search_step step told d None h ends = cc
search_step step told d (Some found) h ends =
    zone_step step.query told found d (ap (λ e. ending_eq (ending_by (outcome_by_zone step.query told found)) e) (sym ends) ∙ h)

ending_leads : (g : StepContext) (step : AskedValue) (told : Told) (d : Denial) (o : Outcome)
    → ending_holds g step told o ≡ true → step.ending ≡ Answered d
    → LeadsTo (has_answer step.query told) o d
ending_leads g step told d (outcome.Given c) h ends =
    let same = ap (ending_eq (Answered c)) (sym ends) ∙ (and_parts (ending_eq (Answered c) step.ending) (is_empty step.excuse) h).0 in
    inl (ap outcome.Given (denial_same c d same))
ending_leads g step told d outcome.NeedsZone h ends =
    inr (refl, search_step step told d (search_from g step.query.class (question_start step.query) step.excuse) h ends)
ending_leads g step told d (outcome.Denied proof) h ends =
    let other = ap (ending_eq (Denied proof)) (sym ends)
    ∙ (and_parts (ending_eq (Denied proof) step.ending) (is_empty step.excuse) h).0 in cc

-- ---- a step

-- where no record is of another class, its ending is that of its outcome
class_leads : (g : StepContext) (step : AskedValue) (told : Told) (d : Denial) (o : Option Rr)
    → judged_holds g step told o ≡ true → step.ending ≡ Answered d
    → LeadsTo (has_answer step.query told) (outcome_of g.limits step.query told (with_entries (judged_part step.depth told) step.sets)) d
class_leads g step told d (Some r) h ends =
    let foreign = Foreign r.owner r.class r.rtype in
    let other = ap (ending_eq foreign) (sym ends) ∙ (and_parts (ending_eq foreign step.ending) (is_bare step) h).0 in cc
class_leads g step told d None h ends =
    let sets = with_entries (judged_part step.depth told) step.sets in
    let holds = ending_holds g step told (outcome_of g.limits step.query told sets) in
    ending_leads g step told d (outcome_of g.limits step.query told sets)
    ((and_parts (entries_hold g (judged_part step.depth told) step.sets) holds h).1) ends

step_denies : (j : Judge) (limits : Limits) (cached : List EntryValue) (earlier : List AskedValue) (step : AskedValue)
    → step_holds j limits cached earlier step ≡ true → StepDenies step
step_denies j limits cached earlier step h = λ told d judged heard ends.
    let g = step_context_of j limits cached earlier step in
    let sets = with_entries (judged_part step.depth told) step.sets in
    let same : judged_sets step ≡ sets = ap (λ o. option_map_or (λ t. with_entries (judged_part step.depth t) step.sets) o []) heard in
    let leads = class_leads g step told d (foreign_record step.query told)
    (judged_step j limits cached earlier step told h judged heard) ends in
    subst (λ s. ShowsDenial step.query told s d) (sym same)
    (outcome_shows limits step.query told sets d (judged_told step.depth told step.sets) leads)

-- ---- a trail

steps_deny : (j : Judge) (limits : Limits) (cached : List EntryValue) (earlier steps : List AskedValue)
    → steps_hold j limits cached earlier steps ≡ true → AllByRecursion StepDenies steps
unfolding steps_hold
steps_deny j limits cached earlier [] h = tt
steps_deny j limits cached earlier (step ∷ steps) h =
    let parts = and_parts (step_holds j limits cached earlier step) (steps_hold j limits cached (earlier ++ step ∷ []) steps) h in
    (step_denies j limits cached earlier step parts.0, steps_deny j limits cached (earlier ++ step ∷ []) steps parts.1)

-- each judged step of a derivation that ends with an answer shows what it denies
pub denials_hold : (j : Judge) (limits : Limits) (cached : List EntryValue) (trail : List AskedValue)
    → derivation j limits cached trail ≡ true
    → HasDenials trail
denials_hold j limits cached trail h =
    steps_deny j (effective limits) cached [] trail (derivation_parts j limits cached trail h).hold
