-- What a step that holds asks: judged asks one deeper than it and plain ones as deep, each made by a step before it or refused.
use Rattle.std.proofs.Common.{◌≡◌, ◌⊎◌, inl, inr, ℕ, ◌+◌, ◌≤◌, Bool, true, false, not, ◌==◌, ◌&&◌, List, [], ◌∷◌, take, Option, None, Some, slice_get, nat_le, if◌then◌else◌, refl, sym, ap, ◌∙◌, arith}
use Rattle.std.specs.List.{AllByRecursion, list_any}
use Rattle.std.proofs.lemmas.Bool.{and_parts, not-true, leb-true}
use Rattle.dns_model.specs.declared.trail.AskRef.{AskRef}
use Rattle.dns_model.specs.declared.trail.AskRef.TheVariants.{Step}
use Rattle.dns_model.specs.declared.trail.MarkOrigin.{MarkOrigin}
use Rattle.dns_model.specs.declared.trail.MarkOrigin.TheVariants.{Table, Repeat, Cache}
use Rattle.dns_model.specs.Names.{Labels, name_eq}
use Rattle.dns_model.specs.Types.{type_dnskey}
use Rattle.dns_model.specs.Records.{Rr, RrSet, Question, question_eq}
use Rattle.dns_model.specs.Chains.{Judge}
use Rattle.dns_model.specs.Trails.{AskedValue, JudgedSetValue, HeardValue, Records, Fault, Answered, Denied}
use Rattle.dns_model.specs.SoundAnswers.{Told, PlacedSet, section_eq}
use Rattle.dns_model.proofs.EachLemmas.{each_append}
use Rattle.dns_model.proofs.SetLemmas.{number_same}
use Rattle.dns_model.proofs.TestLemmas.{if_some}
use Rattle.dns_rules.specs.Marks.{Verdict, is_proved, is_skipped, verdict_of, most_signatures}
use Rattle.dns_rules.specs.Marks as marks
use Rattle.dns_rules.specs.ProofErrors.{Net, DsRecordShouldExist}
use Rattle.dns_rules.specs.Delegations.{ZoneVerdict, Bogus, ds_question, zone_verdict}
use Rattle.dns_rules.specs.Unsigned.{ns_question, set_start, question_start, needs_zone}
use Rattle.dns_rules.specs.KeySets.{needs_ds, judged_keys}
use Rattle.dns_rules.specs.Asking.{Limits, judged_part, ask_of}
use Rattle.dns_rules.specs.Outcome.{Outcome, outcome_of, foreign_record}
use Rattle.dns_rules.specs.Outcome as outcome
use Rattle.dns_rules.specs.CacheEntries.{EntryValue}
use Rattle.dns_rules.specs.Derivation.{StepContext, with_entries, finished_answer, is_ask, verdicts_after, verdicts_asked, verdicts_by, has_mark_of, is_empty, is_plain_ask, probe_by, zone_asked, search_after, search_by, search_from, keys_hold, unsigned_holds, ending_eq, ending_holds, is_served_by, is_by_origin, entry_holds, entries_hold, step_holds, asks_of}
use Rattle.dns_rules.specs.DerivationParts.{is_ask_for, is_judged_ask, after_verdict, if_last, is_by_verdicts, repeats_step, is_foreign, is_failed, is_seen, is_bare, step_context_of, asks_of_sets, judged_holds, step_holds_by, is_plain_step, is_by_search, ends_by_search}
use Rattle.dns_rules.specs.Probes.{NsProbe}
use Rattle.dns_rules.specs.Probes as probes
use Rattle.dns_rules.proofs.StayLemmas.{some_after}
use Rattle.dns_rules.proofs.ExtendLemmas.{is_by_zone}

-- the ask stands for a judged ask one deeper than the step whose grounds these are, or for a plain one as deep as it
pub record IsAskOf (g : StepContext) (ask : AskRef) : Type 0 where
  pub question : Question
  pub asks : (is_ask g.limits.depth g.earlier (g.depth + 1) question ask ≡ true) ⊎ (is_plain_ask g.earlier g.depth question ask ≡ true)

abbrev pub AreAsksOf : StepContext → List AskRef → Type 0
AreAsksOf g asks = AllByRecursion (IsAskOf g) asks

no_asks : (g : StepContext) (asks : List AskRef) → is_empty asks ≡ true → AreAsksOf g asks
no_asks g [] h = tt
no_asks g (ask ∷ asks) h = cc

-- ---- the asks of signatures

last_asks : (g : StepContext) (asks : List AskRef) (vs ws : List Verdict) → if_last asks vs ≡ Some ws → AreAsksOf g asks
last_asks g [] vs ws h = tt
last_asks g (ask ∷ asks) vs ws h = cc

ask_of_question : (g : StepContext) (o : Option Question) (ask : AskRef) → is_ask_for g o ask ≡ true → IsAskOf g ask
ask_of_question g None ask h = cc
ask_of_question g (Some q) ask h = record { question = q; asks = inl h }

after_asks : (g : StepContext) (b : Bool) (v : Verdict) (asks : List AskRef) (o : Option (List Verdict)) (vs : List Verdict)
    → (if b then if_last asks (v ∷ []) else after_verdict v o) ≡ Some vs
    → ((rest : List Verdict) → o ≡ Some rest → AreAsksOf g asks) → AreAsksOf g asks
after_asks g true v asks o vs h rest = last_asks g asks (v ∷ []) vs h
after_asks g false v asks o vs h rest = let some = some_after v o vs h in rest some.rest some.found

asked_asks : (g : StepContext) (b : Bool) (o : Option Question) (ask : AskRef) (asks : List AskRef) (x : Option (List Verdict))
    (vs : List Verdict)
    → is_ask_for g o ask ≡ b → (if b then x else None) ≡ Some vs → (x ≡ Some vs → AreAsksOf g asks) → AreAsksOf g (ask ∷ asks)
asked_asks g true o ask asks x vs is h rest = (ask_of_question g o ask is, rest h)
asked_asks g false o ask asks x vs is h rest = cc

skipped_asks : (g : StepContext) (b : Bool) (v : Verdict) (asks : List AskRef) (o x : Option (List Verdict)) (vs : List Verdict)
    → (if b then after_verdict v o else x) ≡ Some vs → ((rest : List Verdict) → o ≡ Some rest → AreAsksOf g asks)
    → (x ≡ Some vs → AreAsksOf g asks) → AreAsksOf g asks
skipped_asks g true v asks o x vs h rest asked = let some = some_after v o vs h in rest some.rest some.found
skipped_asks g false v asks o x vs h rest asked = asked h

-- the asks of signatures that have verdicts
pub verdicts_asks : (g : StepContext) (set : RrSet) (rs : List Rr) (asks : List AskRef) (vs : List Verdict)
    → verdicts_by g set rs asks ≡ Some vs
    → AreAsksOf g asks
unfolding verdicts_by
verdicts_asks g set [] asks vs h = last_asks g asks [] vs h
verdicts_asks g set (r ∷ rs) [] vs h = tt
verdicts_asks g set (r ∷ rs) (ask ∷ asks) vs h =
    let v = verdict_of g.judge set r (finished_answer g.earlier ask) in
    skipped_asks g (is_skipped g.query set r) marks.Failed (ask ∷ asks) (verdicts_by g set rs (ask ∷ asks))
    (verdicts_asked g set r (ask ∷ asks) (verdicts_by g set rs)) vs h (λ rest k. verdicts_asks g set rs (ask ∷ asks) rest k)
    (λ k. asked_asks g (is_ask_for g (ask_of set r) ask) (ask_of set r) ask asks (verdicts_after v asks (verdicts_by g set rs)) vs refl k
    (λ l. after_asks g (is_proved v) v asks (verdicts_by g set rs asks) vs l (λ rest m. verdicts_asks g set rs asks rest m)))

-- ---- the ask of a key set

-- the ask that leads to a DS verdict
zone_asks : (g : StepContext) (class : ℕ) (name : Labels) (asks : List AskRef) (zone : ZoneVerdict)
    → zone_asked g class name asks ≡ Some zone
    → AreAsksOf g asks
zone_asks g class name [] zone h = tt
zone_asks g class name (ask ∷ asks) zone h =
    let q = ds_question class name in
    let is = is_ask g.limits.depth g.earlier (g.depth + 1) q ask in
    let verdict = zone_verdict g.judge.answers class name (finished_answer g.earlier ask) in
    let parts = and_parts (is_empty asks) is ((if_some (is_empty asks && is) (Some verdict) zone h).0) in
    (record { question = q; asks = inl parts.1 }, no_asks g asks parts.0)

keys_step_asks : (g : StepContext) (needs x : Bool) (placed : PlacedSet) (entry : JudgedSetValue) (o : Option ZoneVerdict)
    → (if needs then is_by_zone g placed entry o else is_empty entry.asked && x) ≡ true
    → ((zone : ZoneVerdict) → o ≡ Some zone → AreAsksOf g entry.asked) → AreAsksOf g entry.asked
keys_step_asks g false x placed entry o h by = no_asks g entry.asked ((and_parts (is_empty entry.asked) x h).0)
keys_step_asks g true x placed entry None h by = cc
keys_step_asks g true x placed entry (Some zone) h by = by zone refl

-- the ask of a key set's entry, if it makes one
pub keys_asks : (g : StepContext) (placed : PlacedSet) (entry : JudgedSetValue) → keys_hold g placed entry ≡ true → AreAsksOf g entry.asked
keys_asks g placed entry h =
    keys_step_asks g (needs_ds g.judge placed.set) (has_mark_of (judged_keys g.judge placed None) entry) placed entry
    (zone_asked g placed.set.class placed.set.owner entry.asked) h
    (λ zone k. zone_asks g placed.set.class placed.set.owner entry.asked zone k)

-- ---- the asks of a search

probe_asks : (g : StepContext) (class : ℕ) (name : Labels) (asks : List AskRef) (probe : NsProbe) (above : Option ZoneVerdict)
    (zone : ZoneVerdict)
    → search_after g class name asks probe above ≡ Some zone → (above ≡ Some zone → AreAsksOf g asks) → AreAsksOf g asks
probe_asks g class name asks probes.Found above zone h onward = zone_asks g class name asks zone h
probe_asks g class name asks probes.Absent above zone h onward = onward h
probe_asks g class name asks probes.Failed above zone h onward =
    no_asks g asks ((if_some (is_empty asks) (Some (Bogus (Net (ns_question class name)))) zone h).0)

root_asks : (g : StepContext) (start : Labels) (asks : List AskRef) (zone : ZoneVerdict)
    → (if is_empty asks then Some (Bogus (DsRecordShouldExist start)) else None) ≡ Some zone → AreAsksOf g asks
root_asks g start asks zone h = no_asks g asks ((if_some (is_empty asks) (Some (Bogus (DsRecordShouldExist start))) zone h).0)

-- the plain asks of a search, and the ask for the DS set of the zone that it finds
pub search_asks : (g : StepContext) (class : ℕ) (start name : Labels) (asks : List AskRef) (zone : ZoneVerdict)
    → search_by g class start name asks ≡ Some zone → AreAsksOf g asks
unfolding search_by
search_asks g class start [] asks zone h = root_asks g start asks zone h
search_asks g class start (label ∷ rest) [] zone h = cc
search_asks g class start (label ∷ rest) (ask ∷ asks) zone h =
    let name : Labels = label ∷ rest in
    let q = ns_question class name in
    let probe = probe_by g.earlier name ask in
    let above = search_by g class start rest asks in
    let some = if_some (is_plain_ask g.earlier g.depth q ask) (search_after g class name asks probe above) zone h in (
      record { question = q; asks = inr some.0 },
      probe_asks g class name asks probe above zone some.1 (λ k. search_asks g class start rest asks zone k),
    )

searched_asks : (g : StepContext) (placed : PlacedSet) (entry : JudgedSetValue) (o : Option ZoneVerdict)
    → is_by_search placed entry o ≡ true
    → ((zone : ZoneVerdict) → o ≡ Some zone → AreAsksOf g entry.asked) → AreAsksOf g entry.asked
searched_asks g placed entry None h by = cc
searched_asks g placed entry (Some zone) h by = by zone refl

-- the asks of an unsigned set's entry
pub unsigned_asks : (g : StepContext) (placed : PlacedSet) (entry : JudgedSetValue) → unsigned_holds g placed entry ≡ true
    → AreAsksOf g entry.asked
unsigned_asks g placed entry h =
    let start = set_start placed.set in
    searched_asks g placed entry (search_from g placed.set.class start entry.asked) h
    (λ zone k. search_asks g placed.set.class start start entry.asked zone k)

-- ---- the asks of entries

rules_asks : (g : StepContext) (keys searched x y : Bool) (placed : PlacedSet) (entry : JudgedSetValue) (o : Option (List Verdict))
    → (if keys then x else if searched then y else is_by_verdicts placed entry o) ≡ true → (x ≡ true → AreAsksOf g entry.asked)
    → (y ≡ true → AreAsksOf g entry.asked) → ((vs : List Verdict) → o ≡ Some vs → AreAsksOf g entry.asked) → AreAsksOf g entry.asked
rules_asks g true searched x y placed entry o h of_keys of_search by = of_keys h
rules_asks g false true x y placed entry o h of_keys of_search by = of_search h
rules_asks g false false x y placed entry None h of_keys of_search by = cc
rules_asks g false false x y placed entry (Some vs) h of_keys of_search by = by vs refl

origin_asks : (g : StepContext) (placed : PlacedSet) (entry : JudgedSetValue) (origin : MarkOrigin)
    → is_by_origin g placed entry origin ≡ true
    → AreAsksOf g entry.asked
origin_asks g placed entry Table h =
    let signatures = take most_signatures placed.set.signatures in
    rules_asks g (placed.set.rtype == type_dnskey) (needs_zone placed.set) (keys_hold g placed entry)
    (unsigned_holds g placed entry) placed entry
    (verdicts_by g placed.set signatures entry.asked) h (keys_asks g placed entry) (unsigned_asks g placed entry)
    (λ vs k. verdicts_asks g placed.set signatures entry.asked vs k)
origin_asks g placed entry (Repeat n) h =
    no_asks g entry.asked ((and_parts (is_empty entry.asked) (repeats_step g placed entry (slice_get g.earlier n)) h).0)
origin_asks g placed entry Cache h =
    no_asks g entry.asked ((and_parts (is_empty entry.asked) (list_any (is_served_by g.judge g.query placed entry) g.cached) h).0)

pub entry_asks : (g : StepContext) (placed : PlacedSet) (entry : JudgedSetValue) → entry_holds g placed entry ≡ true
    → AreAsksOf g entry.asked
unfolding entry_holds
entry_asks g placed entry h =
    let section = section_eq placed.section entry.section in
    let owner = name_eq placed.set.owner entry.owner in
    let rtype = placed.set.rtype == entry.rtype in
    let by_origin = is_by_origin g placed entry entry.origin in
    let one = and_parts section (owner && (rtype && by_origin)) h in
    let two = and_parts owner (rtype && by_origin) one.1 in
    origin_asks g placed entry entry.origin ((and_parts rtype by_origin two.1).1)

pub entries_asks : (g : StepContext) (ps : List PlacedSet) (es : List JudgedSetValue) → entries_hold g ps es ≡ true
    → AreAsksOf g (asks_of_sets es)
unfolding entries_hold
entries_asks g [] [] h = tt
entries_asks g [] (e ∷ es) h = cc
entries_asks g (p ∷ ps) [] h = cc
entries_asks g (p ∷ ps) (e ∷ es) h =
    let parts = and_parts (entry_holds g p e) (entries_hold g ps es) h in
    each_append (IsAskOf g) e.asked (asks_of_sets es) (entry_asks g p e parts.0) (entries_asks g ps es parts.1)

-- ---- the asks of a step

sets_asks : (g : StepContext) (sets : List JudgedSetValue) → is_empty sets ≡ true → AreAsksOf g (asks_of_sets sets)
sets_asks g [] h = tt
sets_asks g (set ∷ sets) h = cc

bare_asks : (g : StepContext) (step : AskedValue) → is_bare step ≡ true → AreAsksOf g (asks_of step)
bare_asks g step h =
    let parts = and_parts (is_empty step.sets) (is_empty step.excuse) h in
    each_append (IsAskOf g) (asks_of_sets step.sets) step.excuse (sets_asks g step.sets parts.0) (no_asks g step.excuse parts.1)

excuse_found : (g : StepContext) (step : AskedValue) (told : Told) (o : Option ZoneVerdict) → ends_by_search step told o ≡ true
    → ((zone : ZoneVerdict) → o ≡ Some zone → AreAsksOf g step.excuse) → AreAsksOf g step.excuse
excuse_found g step told None h by = cc
excuse_found g step told (Some zone) h by = by zone refl

-- the asks on which the ending stands
ending_asks : (g : StepContext) (step : AskedValue) (told : Told) (o : Outcome) → ending_holds g step told o ≡ true
    → AreAsksOf g step.excuse
ending_asks g step told (outcome.Given d) h =
    no_asks g step.excuse ((and_parts (ending_eq (Answered d) step.ending) (is_empty step.excuse) h).1)
ending_asks g step told outcome.NeedsZone h =
    let start = question_start step.query in
    excuse_found g step told (search_from g step.query.class start step.excuse) h
    (λ zone k. search_asks g step.query.class start start step.excuse zone k)
ending_asks g step told (outcome.Denied proof) h =
    no_asks g step.excuse ((and_parts (ending_eq (Denied proof) step.ending) (is_empty step.excuse) h).1)

judged_asks : (g : StepContext) (step : AskedValue) (told : Told) (o : Option Rr) → judged_holds g step told o ≡ true
    → AreAsksOf g (asks_of step)
judged_asks g step told (Some r) h = bare_asks g step ((and_parts (is_foreign r step.ending) (is_bare step) h).1)
judged_asks g step told None h =
    let placed = judged_part step.depth told in
    let outcome_is = outcome_of g.limits step.query told (with_entries placed step.sets) in
    let parts = and_parts (entries_hold g placed step.sets) (ending_holds g step told outcome_is) h in
    each_append (IsAskOf g) (asks_of_sets step.sets) step.excuse (entries_asks g placed step.sets parts.0)
    (ending_asks g step told outcome_is parts.1)

records_asks : (g : StepContext) (step : AskedValue) (told : Told) (b : Bool)
    → (if b then judged_holds g step told (foreign_record step.query told) else is_seen step.ending && is_bare step) ≡ true
    → AreAsksOf g (asks_of step)
records_asks g step told true h = judged_asks g step told (foreign_record step.query told) h
records_asks g step told false h = bare_asks g step ((and_parts (is_seen step.ending) (is_bare step) h).1)

heard_asks : (g : StepContext) (step : AskedValue) (reply : HeardValue) → step_holds_by g step reply ≡ true → AreAsksOf g (asks_of step)
heard_asks g step Fault h = bare_asks g step ((and_parts (is_failed step.ending) (is_bare step) h).1)
heard_asks g step (Records told empty) h = records_asks g step told step.judged h

-- a step that holds asks by the steps before it
pub step_asks : (j : Judge) (limits : Limits) (cached : List EntryValue) (earlier : List AskedValue)
    (step : AskedValue) → step_holds j limits cached earlier step ≡ true
    → AreAsksOf (step_context_of j limits cached earlier step) (asks_of step)
unfolding step_holds
step_asks j limits cached earlier step h = heard_asks (step_context_of j limits cached earlier step) step step.reply h

-- ---- what is asked

-- a step that an asker names: a judged one is one deeper than the asker, and a plain one as deep; it is no deeper than may be where
-- the asker isn't
pub record IsMade (g : StepContext) (n : ℕ) : Type 0 where
  pub step : AskedValue
  pub found : slice_get g.earlier n ≡ Some step
  pub depth : step.depth ≡ (if step.judged then g.depth + 1 else g.depth)
  pub within : g.depth ≤ g.limits.depth → step.depth ≤ g.limits.depth

judged_made : (g : StepContext) (n : ℕ) (q : Question) (o : Option AskedValue) → slice_get g.earlier n ≡ o
    → nat_le (g.depth + 1) g.limits.depth ≡ true
    → is_judged_ask (g.depth + 1) q o ≡ true → IsMade g n
judged_made g n q None is fits h = cc
judged_made g n q (Some step) is fits h =
    let deeper = step.depth == g.depth + 1 in
    let one = and_parts step.judged (deeper && question_eq q step.query) h in
    let depth = number_same step.depth (g.depth + 1) ((and_parts deeper (question_eq q step.query) one.1).0) in
    let fit = leb-true (g.depth + 1) g.limits.depth fits in
    record {
      step = step;
      found = is;
      depth = depth ∙ ap (λ b. if b then g.depth + 1 else g.depth) (sym one.0);
      within = λ up_to. omega (arith, depth, fit);
    }

plain_made : (g : StepContext) (n : ℕ) (q : Question) (o : Option AskedValue) → slice_get g.earlier n ≡ o
    → is_plain_step g.depth q o ≡ true → IsMade g n
plain_made g n q None is h = cc
plain_made g n q (Some step) is h =
    let alike = step.depth == g.depth in
    let one = and_parts (not step.judged) (alike && question_eq q step.query) h in
    let depth = number_same step.depth g.depth ((and_parts alike (question_eq q step.query) one.1).0) in
    record {
      step = step;
      found = is;
      depth = depth ∙ ap (λ b. if b then g.depth + 1 else g.depth) (sym (not-true step.judged one.0));
      within = λ up_to. omega (arith, depth, up_to);
    }

ask_made : (g : StepContext) (n : ℕ) (q : Question)
    → (is_ask g.limits.depth g.earlier (g.depth + 1) q (Step n) ≡ true) ⊎ (is_plain_ask g.earlier g.depth q (Step n) ≡ true) → IsMade g n
ask_made g n q (inl h) =
    let parts = and_parts (nat_le (g.depth + 1) g.limits.depth) (is_judged_ask (g.depth + 1) q (slice_get g.earlier n)) h in
    judged_made g n q (slice_get g.earlier n) refl parts.0 parts.1
ask_made g n q (inr h) = plain_made g n q (slice_get g.earlier n) refl h

-- an ask that a step answers
pub step_made : (g : StepContext) (n : ℕ) → IsAskOf g (Step n) → IsMade g n
step_made g n ask = ask_made g n ask.question ask.asks
