-- The rules lead a set and an ending where the rows of a trail do.
use Rattle.std.proofs.Common.{◌≡◌, ◌+◌, ◌==◌, Bool, true, false, ◌&&◌, List, [], ◌∷◌, map, Option, None, Some, if◌then◌else◌, refl, sym, ap, ◌∙◌}
use Rattle.std.specs.Option.{option_map, option_map_or}
use Rattle.dns_model.specs.declared.trail.AskRef.{AskRef}
use Rattle.dns_model.specs.Types.{type_dnskey}
use Rattle.dns_model.specs.Records.{Question}
use Rattle.dns_model.specs.SoundAnswers.{Told, PlacedSet}
use Rattle.dns_model.specs.Trails.{AskedValue, JudgedSetValue, EndingValue}
use Rattle.dns_model.proofs.TestLemmas.{and_true}
use Rattle.dns_rules.specs.ChainedSets.{chained_keys, chained_by_ds}
use Rattle.dns_rules.specs.Delegations.{ZoneVerdict, ds_question, zone_verdict}
use Rattle.dns_rules.specs.Derivation.{StepContext, finished_answer, is_ask, zone_asked, verdicts_by, search_from, is_empty, has_mark_of, is_by_rules, keys_hold, ending_holds, ending_eq, ending_by}
use Rattle.dns_rules.specs.KeySets.{needs_ds, judged_keys}
use Rattle.dns_rules.specs.MarkedSets.{MarkedSet}
use Rattle.dns_rules.specs.Marks.{judged_by}
use Rattle.dns_rules.specs.Outcome.{Outcome, Given, NeedsZone, Denied, outcome_of, outcome_by_zone}
use Rattle.dns_rules.specs.Unsigned.{set_start, question_start, needs_zone, unsigned_by}
use Rattle.dns_rules.proofs.ChainedLemmas.{chained_keys-bare, chained_by_ds-bare}
use Rattle.dns_trust.proofs.Beside.{beside_known}
use Rattle.dns_flow.specs.declared.phases.Seeker.TheVariants.{Set, Ending}
use Rattle.dns_flow.specs.Phases.{judged_ask, NeedsDs, Marked, NeedValue, SetEnds, StepEnds, first_signatures, search_at, try_from, start_keys, start_set, start_by, start_ending, turn, after}
use Rattle.dns_flow.specs.Leads.{chainless, bare_phase, ends_with_mark, ends_with, leads_to_mark, leads_to_ending}
use Rattle.dns_flow.proofs.Bare.{trail_bare}
use Rattle.dns_flow.proofs.Ends.{led, last_if, unasked_end, asked, marked, concluded, led_if, last_made}
use Rattle.dns_flow.proofs.Searches.{zone_end, searched}
use Rattle.dns_flow.proofs.Tries.{tried_end, tried_from}
use Rattle.dns_flow.proofs.Zones.{zone_outcome, zone_unsigned}

-- ---- key sets

-- the end of a key set, with the DS verdict of its owner if it is known
abbrev pub keys_end : StepContext → PlacedSet → Option ZoneVerdict → NeedValue
keys_end g placed zone = SetEnds (chainless (judged_keys g.judge placed zone))

abbrev zone_keys_end : StepContext → PlacedSet → ZoneVerdict → NeedValue
zone_keys_end g placed zone = keys_end g placed (Some zone)

ds_led : (g : StepContext) (told : Told) (placed : PlacedSet) (asks : List AskRef) → needs_ds g.judge placed.set ≡ true
    → led g told asks (bare_phase (NeedsDs placed))
    ≡ option_map (zone_keys_end g placed) (zone_asked g placed.set.class placed.set.owner asks)
unfolding turn after
ds_led g told placed [] needs =
    unasked_end g told (NeedsDs placed) (judged_ask (ds_question placed.set.class placed.set.owner)) refl
ds_led g told placed (made ∷ asks) needs =
    let question = ds_question placed.set.class placed.set.owner in
    let is_one = is_ask g.limits.depth g.earlier (g.depth + 1) question made in
    let by = λ (o : Option (List MarkedSet)). zone_verdict g.judge.answers placed.set.class placed.set.owner o in
    let told_answer = finished_answer g.earlier made in
    let answer = option_map (map chainless) told_answer in
    asked g told made asks (NeedsDs placed) (judged_ask question) refl
    ∙ ap (λ c. if is_one then led g told asks (bare_phase (Marked c)) else None) (beside_known g.judge placed answer needs)
    ∙ ap (λ x. if is_one then x else None)
    (marked g told asks (chained_by_ds g.judge placed answer)
    ∙ ap (λ m. last_if asks (SetEnds (chainless m))) (chained_by_ds-bare g.judge placed answer)
    ∙ ap (λ o. last_if asks (zone_keys_end g placed (by o))) (trail_bare told_answer))
    ∙ last_made is_one asks (zone_keys_end g placed) (by told_answer)

settled_led : (g : StepContext) (told : Told) (placed : PlacedSet) (asks : List AskRef)
    → led g told asks (bare_phase (Marked (chained_keys g.judge placed))) ≡ last_if asks (keys_end g placed None)
settled_led g told placed asks =
    marked g told asks (chained_keys g.judge placed) ∙ ap (λ m. last_if asks (SetEnds (chainless m))) (chained_keys-bare g.judge placed)

-- the row of a key set
abbrev keys_row : StepContext → PlacedSet → List AskRef → Option NeedValue
keys_row g placed asks =
    if needs_ds g.judge placed.set
    then option_map (zone_keys_end g placed) (zone_asked g placed.set.class placed.set.owner asks)
    else last_if asks (keys_end g placed None)

keys_if : (g : StepContext) (told : Told) (placed : PlacedSet) (asks : List AskRef) (b : Bool) → needs_ds g.judge placed.set ≡ b
    → led g told asks (bare_phase (if b then NeedsDs placed else Marked (chained_keys g.judge placed)))
    ≡ (if b then option_map (zone_keys_end g placed) (zone_asked g placed.set.class placed.set.owner asks)
    else last_if asks (keys_end g placed None))
keys_if g told placed asks true needs = ds_led g told placed asks needs
keys_if g told placed asks false needs = settled_led g told placed asks

-- ---- a set

-- the row of a set
abbrev pub set_row : StepContext → Told → PlacedSet → List AskRef → Option NeedValue
set_row g told placed asks =
    if placed.set.rtype == type_dnskey then keys_row g placed asks
    else if needs_zone placed.set
    then option_map (zone_end g.query told (Set placed)) (search_from g placed.set.class (set_start placed.set) asks)
    else option_map (tried_end placed) (verdicts_by g placed.set (first_signatures placed.set) asks)

-- where asks lead a set
pub set_led : (g : StepContext) (told : Told) (placed : PlacedSet) (asks : List AskRef)
    → led g told asks (bare_phase (start_set g.judge g.query told placed)) ≡ set_row g told placed asks
unfolding start_set
set_led g told placed asks =
    let keys = placed.set.rtype == type_dnskey in
    let unsigned = needs_zone placed.set in
    let by_zone = search_at g.query told (Set placed) placed.set.class (set_start placed.set) in
    let tries = try_from g.query placed [] (first_signatures placed.set) in
    led_if g told asks keys (start_keys g.judge placed) (if unsigned then by_zone else tries)
    ∙ ap (λ x. if keys then x else led g told asks (bare_phase (if unsigned then by_zone else tries)))
    (keys_if g told placed asks (needs_ds g.judge placed.set) refl)
    ∙ ap (λ x. if keys then keys_row g placed asks else x)
    (led_if g told asks unsigned by_zone tries
    ∙ ap (λ x. if unsigned then x else led g told asks (bare_phase tries))
    (searched g told (Set placed) placed.set.class (set_start placed.set) asks (set_start placed.set))
    ∙ ap (λ x. if unsigned then option_map (zone_end g.query told (Set placed))
    (search_from g placed.set.class (set_start placed.set) asks) else x)
    (tried_from g told placed asks [] (first_signatures placed.set) refl))

-- ---- the entry of a set

mark_if : (entry : JudgedSetValue) (b : Bool) (x y : Option NeedValue)
    → option_map_or (ends_with_mark entry) (if b then x else y) false
    ≡ (if b then option_map_or (ends_with_mark entry) x false else option_map_or (ends_with_mark entry) y false)
mark_if entry true x y = refl
mark_if entry false x y = refl

mark_map : {X : Type 0} (entry : JudgedSetValue) (end : X → NeedValue) (test : X → Bool) (o : Option X)
    → ((x : X) → ends_with_mark entry (end x) ≡ test x)
    → option_map_or (ends_with_mark entry) (option_map end o) false ≡ option_map_or test o false
mark_map entry end test None same = refl
mark_map entry end test (Some x) same = same x

mark_last : (entry : JudgedSetValue) (asks : List AskRef) (n : NeedValue)
    → option_map_or (ends_with_mark entry) (last_if asks n) false ≡ (is_empty asks && ends_with_mark entry n)
mark_last entry [] n = refl
mark_last entry (made ∷ asks) n = refl

-- the rules lead a set to the mark of an entry exactly where the entry is by the rows
pub set_rows : (g : StepContext) (told : Told) (placed : PlacedSet) (entry : JudgedSetValue)
    → is_by_rules g placed entry ≡ leads_to_mark g told placed entry
unfolding leads_to_mark
set_rows g told placed entry =
    let asks = entry.asked in
    let P = λ (o : Option NeedValue). option_map_or (ends_with_mark entry) o false in
    let keys = placed.set.rtype == type_dnskey in
    let unsigned = needs_zone placed.set in
    let needs = needs_ds g.judge placed.set in
    let ds = zone_asked g placed.set.class placed.set.owner asks in
    let zone = search_from g placed.set.class (set_start placed.set) asks in
    let verdicts = verdicts_by g placed.set (first_signatures placed.set) asks in
    let by_ds = option_map (zone_keys_end g placed) ds in
    let settled = last_if asks (keys_end g placed None) in
    let by_zone = option_map (zone_end g.query told (Set placed)) zone in
    let tried = option_map (tried_end placed) verdicts in
    let zone_test = λ (z : ZoneVerdict). has_mark_of (unsigned_by placed z) entry in
    sym (ap P (set_led g told placed asks)
    ∙ mark_if entry keys (keys_row g placed asks) (if unsigned then by_zone else tried)
    ∙ ap (λ x. if keys then x else P (if unsigned then by_zone else tried))
    (mark_if entry needs by_ds settled
    ∙ ap (λ x. if needs then x else P settled)
    (mark_map entry (zone_keys_end g placed) (λ z. has_mark_of (judged_keys g.judge placed (Some z)) entry) ds (λ z. refl))
    ∙ ap (λ x. if needs then option_map_or (λ z. has_mark_of (judged_keys g.judge placed (Some z)) entry) ds false else x)
    (mark_last entry asks (keys_end g placed None)))
    ∙ ap (λ x. if keys then keys_hold g placed entry else x)
    (mark_if entry unsigned by_zone tried
    ∙ ap (λ x. if unsigned then x else P tried)
    (mark_map entry (zone_end g.query told (Set placed)) zone_test zone (λ z. ap (λ m. has_mark_of m entry) (zone_unsigned placed z)))
    ∙ ap (λ x. if unsigned then option_map_or zone_test zone false else x)
    (mark_map entry (tried_end placed) (λ vs. has_mark_of (judged_by placed vs) entry) verdicts (λ vs. refl))))

-- ---- the ending of a step

end_map : {X : Type 0} (ending : EndingValue) (end : X → NeedValue) (test : X → Bool) (o : Option X)
    → ((x : X) → ends_with ending (end x) ≡ test x)
    → option_map_or (ends_with ending) (option_map end o) false ≡ option_map_or test o false
end_map ending end test None same = refl
end_map ending end test (Some x) same = same x

and_false : (b : Bool) → (b && false) ≡ false
and_false true = refl
and_false false = refl

end_last : (ending : EndingValue) (asks : List AskRef) (o : Outcome)
    → option_map_or (ends_with ending) (last_if asks (StepEnds o)) false ≡ (ending_eq (ending_by o) ending && is_empty asks)
end_last ending [] o = sym (and_true (ending_eq (ending_by o) ending))
end_last ending (made ∷ asks) o = sym (and_false (ending_eq (ending_by o) ending))

-- the row of an ending, by the outcome of its sets
abbrev pub ending_row : StepContext → Told → List AskRef → Outcome → Option NeedValue
ending_row g told asks (Given denial) = last_if asks (StepEnds (Given denial))
ending_row g told asks NeedsZone = option_map (zone_end g.query told Ending) (search_from g g.query.class (question_start g.query) asks)
ending_row g told asks (Denied p) = last_if asks (StepEnds (Denied p))

pub outcome_led : (g : StepContext) (told : Told) (asks : List AskRef) (o : Outcome)
    → led g told asks (bare_phase (start_by g.query told o)) ≡ ending_row g told asks o
outcome_led g told asks (Given denial) = concluded g told asks (Given denial)
outcome_led g told asks NeedsZone = searched g told Ending g.query.class (question_start g.query) asks (question_start g.query)
outcome_led g told asks (Denied p) = concluded g told asks (Denied p)

-- where asks lead the ending of a step
pub ending_led : (g : StepContext) (told : Told) (sets : List MarkedSet) (asks : List AskRef)
    → led g told asks (bare_phase (start_ending g.limits g.query told sets))
    ≡ ending_row g told asks (outcome_of g.limits g.query told sets)
unfolding start_ending
ending_led g told sets asks = outcome_led g told asks (outcome_of g.limits g.query told sets)

row_holds : (g : StepContext) (told : Told) (step : AskedValue) (o : Outcome) → step.query ≡ g.query
    → ending_holds g step told o ≡ option_map_or (ends_with step.ending) (ending_row g told step.excuse o) false
row_holds g told step (Given denial) same = sym (end_last step.ending step.excuse (Given denial))
row_holds g told step (Denied p) same = sym (end_last step.ending step.excuse (Denied p))
row_holds g told step NeedsZone same =
    let test = λ (q : Question) (zone : ZoneVerdict). ending_eq (ending_by (outcome_by_zone q told zone)) step.ending in
    ap (λ q. option_map_or (test q) (search_from g q.class (question_start q) step.excuse) false) same
    ∙ sym (end_map step.ending (zone_end g.query told Ending) (test g.query)
    (search_from g g.query.class (question_start g.query) step.excuse)
    (λ zone. ap (λ o. ending_eq (ending_by o) step.ending) (zone_outcome g.query told zone)))

-- the rules lead the judged sets of a step to its ending exactly where the ending follows from the table of answers
pub ending_rows : (g : StepContext) (told : Told) (sets : List MarkedSet) (step : AskedValue) → step.query ≡ g.query
    → ending_holds g step told (outcome_of g.limits g.query told sets) ≡ leads_to_ending g told sets step
unfolding leads_to_ending
ending_rows g told sets step same =
    row_holds g told step (outcome_of g.limits g.query told sets) same
    ∙ sym (ap (λ o. option_map_or (ends_with step.ending) o false) (ending_led g told sets step.excuse))
