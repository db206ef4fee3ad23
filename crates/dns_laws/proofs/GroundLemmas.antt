-- Insecure has a ground: in a derivation each set that a step marks Insecure has one in the steps before.
use Rattle.std.proofs.Common.{◌≡◌, ℕ, zero, suc, ◌+◌, arith, Bool, true, false, not, ◌==◌, ◌&&◌, ◌||◌, List, [], ◌∷◌, ◌++◌, length, Option, None, Some, slice_get, if◌then◌else◌, refl, sym, ap, ◌∙◌, subst, append_assoc}
use Rattle.std.specs.Option.{option_map_or}
use Rattle.std.specs.List.{list_any, list_all, enumerate_from, AllByRecursion}
use lib.Pointwise.{pointwise}
use Rattle.std.proofs.lemmas.Bool.{and_parts, and_from}
use Rattle.std.proofs.lemmas.List.{length_push}
use Rattle.dns_model.specs.declared.trail.MarkOrigin.{MarkOrigin}
use Rattle.dns_model.specs.declared.trail.MarkOrigin.TheVariants.{Table, Repeat, Cache}
use Rattle.dns_model.specs.Names.{Labels, name_eq}
use Rattle.dns_model.specs.Records.{Rr, RrSet, question_eq}
use Rattle.dns_model.specs.Keys.{VerifierAnswers}
use Rattle.dns_model.specs.Chains.{Judge, is_nonempty, rdatas_of}
use Rattle.dns_model.specs.SoundAnswers.{Told, PlacedSet, section_eq, placed_sets}
use Rattle.dns_model.specs.Trails.{AskedValue, JudgedSetValue, HeardValue, Records, Fault}
use Rattle.dns_model.proofs.Lists.{take-front}
use Rattle.dns_model.proofs.EachLemmas.{each_more, each_append, each_filter}
use Rattle.dns_model.proofs.SetLemmas.{IsProper, is_of, name_back, name_refl, name_trans, proper_placed}
use Rattle.dns_rules.specs.MarkedSets.{MarkedSet}
use Rattle.dns_rules.specs.Delegations.{is_insecure}
use Rattle.dns_rules.specs.Asking.{Limits, effective, judged_part}
use Rattle.dns_rules.specs.Outcome.{outcome_of, foreign_record}
use Rattle.dns_rules.specs.CacheKeys.{same_bytes}
use Rattle.dns_rules.specs.CacheEntries.{EntryValue}
use Rattle.dns_rules.specs.Derivation.{StepContext, told_in, with_entries, judged_sets, has_mark_of, is_by_origin, is_repeat, is_served_by, is_empty, entry_holds, entries_hold, ending_holds, step_holds, steps_hold, has_order, derivation}
use Rattle.dns_rules.specs.DerivationParts.{step_context_of, repeats_step, is_foreign, is_failed, is_seen, is_bare, judged_holds, step_holds_by}
use Rattle.dns_rules.proofs.Members.{picked_known}
use Rattle.dns_rules.proofs.FindLemmas.{each_all}
use Rattle.dns_rules.proofs.ExtendLemmas.{without_entries}
use Rattle.dns_rules.proofs.KeyLemmas.{owner_same}
use Rattle.dns_laws.specs.Ground.{is_ground, has_ground, is_grounded, HasGrounds}
use Rattle.dns_laws.proofs.GroundParts.{any_front, each_at}
use Rattle.dns_laws.proofs.GroundAnswers.{Grounded, IsSettled, AreSettled, StepsSettled, grounded_alike}
use Rattle.dns_laws.proofs.GroundMarks.{EarlierSettled, GroundedIn, mark_of_entry, rules_grounded}

-- ---- a set that an earlier step has, too

-- sets with a record each, whose first records are the same, have one owner
same_owner : (one two : RrSet) (xs ys : List Rr) → is_nonempty (rdatas_of xs) ≡ true
    → AllByRecursion (λ r. is_of one r ≡ true) xs
    → AllByRecursion (λ r. is_of two r ≡ true) ys → pointwise same_bytes xs ys ≡ true
    → name_eq two.owner one.owner ≡ true
same_owner one two [] ys some of_one of_two same = cc
same_owner one two (x ∷ xs) [] some of_one of_two same = cc
same_owner one two (x ∷ xs) (y ∷ ys) some of_one of_two same =
    let alike : name_eq x.owner y.owner ≡ true =
    ap (name_eq x.owner) (sym (owner_same x y ((and_parts (same_bytes x y) (pointwise same_bytes xs ys) same).0)))
    ∙ name_refl x.owner in
    let first = (and_parts (name_eq one.owner x.owner) (one.rtype == x.rtype) of_one.0).0 in
    let second = (and_parts (name_eq two.owner y.owner) (two.rtype == y.rtype) of_two.0).0 in
    name_trans two.owner y.owner one.owner second
    (name_back one.owner y.owner (name_trans one.owner x.owner y.owner first alike))

repeat_grounded : (g : StepContext) (placed : PlacedSet) (entry : JudgedSetValue) (n : ℕ) (o : Option AskedValue)
    → EarlierSettled g → IsProper placed.set
    → is_insecure entry.mark ≡ true → slice_get g.earlier n ≡ o → repeats_step g placed entry o ≡ true
    → GroundedIn g placed.set.owner
repeat_grounded g placed entry n None settled proper insecure is h = cc
repeat_grounded g placed entry n (Some step) settled proper insecure is h =
    let V = g.judge.answers in
    let sets = judged_sets step in
    let each = each_at (λ s. AreSettled V g.earlier (judged_sets s)) g.earlier n step settled is in
    let p = picked_known (is_repeat placed entry) (IsSettled V g.earlier) sets each
    ((and_parts (question_eq g.query step.query) (list_any (is_repeat placed entry) sets) h).1) in
    let set = p.it.set in
    let records = pointwise same_bytes placed.set.records set.records in
    let signatures = pointwise same_bytes placed.set.signatures set.signatures in
    let one = and_parts records (signatures && has_mark_of p.it entry) p.passes in
    let two = and_parts signatures (has_mark_of p.it entry) one.1 in
    grounded_alike V g.earlier set.owner placed.set.owner
    (same_owner placed.set set placed.set.records set.records proper.listed proper.own p.known.proper.own one.0)
    (p.known.grounded (mark_of_entry p.it entry two.1 insecure))

-- ---- the entries of a step

-- the sets of the steps before are settled, and nothing was kept before them
abbrev FromNothing : StepContext → Type 0
FromNothing g = EarlierSettled g × (g.cached ≡ [])

origin_grounded : (g : StepContext) (placed : PlacedSet) (entry : JudgedSetValue) (origin : MarkOrigin)
    → FromNothing g → IsProper placed.set
    → is_insecure entry.mark ≡ true → is_by_origin g placed entry origin ≡ true → GroundedIn g placed.set.owner
origin_grounded g placed entry Table settled proper insecure h = rules_grounded g placed entry settled.0 insecure h
origin_grounded g placed entry (Repeat n) settled proper insecure h =
    repeat_grounded g placed entry n (slice_get g.earlier n) settled.0 proper insecure refl
    ((and_parts (is_empty entry.asked) (repeats_step g placed entry (slice_get g.earlier n)) h).1)
origin_grounded g placed entry Cache settled proper insecure h =
    let kept = λ (entries : List EntryValue). list_any (is_served_by g.judge g.query placed entry) entries in
    let none : false ≡ true = ap kept (sym settled.1) ∙ (and_parts (is_empty entry.asked) (kept g.cached) h).1 in
    cc

-- an entry of a set: where it is Insecure, the set's owner and the entry's have a ground
record EntryGrounded (g : StepContext) (placed : PlacedSet) (entry : JudgedSetValue) : Type 0 where
  of_set : is_insecure entry.mark ≡ true → GroundedIn g placed.set.owner
  of_entry : is_insecure entry.mark ≡ true → GroundedIn g entry.owner

entry_grounded : (g : StepContext) (placed : PlacedSet) (entry : JudgedSetValue) → FromNothing g
    → IsProper placed.set → entry_holds g placed entry ≡ true
    → EntryGrounded g placed entry
unfolding entry_holds
entry_grounded g placed entry settled proper h =
    let section = section_eq placed.section entry.section in
    let owner = name_eq placed.set.owner entry.owner in
    let rtype = placed.set.rtype == entry.rtype in
    let by_origin = is_by_origin g placed entry entry.origin in
    let one = and_parts section (owner && (rtype && by_origin)) h in
    let two = and_parts owner (rtype && by_origin) one.1 in
    let three = and_parts rtype by_origin two.1 in
    let of_set = λ (insecure : is_insecure entry.mark ≡ true). origin_grounded g placed entry entry.origin settled proper
    insecure three.1 in
    record {
      of_set = of_set;
      of_entry = λ insecure. grounded_alike g.judge.answers g.earlier placed.set.owner entry.owner two.0 (of_set insecure);
    }

-- entries, each of which has a ground where it is Insecure
abbrev EntriesGrounded : StepContext → List JudgedSetValue → Type 0
EntriesGrounded g entries = AllByRecursion (λ entry. is_insecure entry.mark ≡ true → GroundedIn g entry.owner) entries

-- the sets of a step, judged, and its entries
record StepGrounded (g : StepContext) (sets : List MarkedSet) (entries : List JudgedSetValue) : Type 0 where
  settled : AreSettled g.judge.answers g.earlier sets
  grounded : EntriesGrounded g entries

entries_grounded : (g : StepContext) (ps : List PlacedSet) (es : List JudgedSetValue) → FromNothing g
    → AllByRecursion (λ p. IsProper p.set) ps
    → entries_hold g ps es ≡ true → StepGrounded g (with_entries ps es) es
unfolding entries_hold
entries_grounded g [] [] settled proper h = record { settled = tt; grounded = tt }
entries_grounded g [] (e ∷ es) settled proper h = cc
entries_grounded g (p ∷ ps) [] settled proper h = cc
entries_grounded g (p ∷ ps) (e ∷ es) settled proper h =
    let parts = and_parts (entry_holds g p e) (entries_hold g ps es) h in
    let one = entry_grounded g p e settled proper.0 parts.0 in
    let rest = entries_grounded g ps es settled proper.1 parts.1 in
    record {
      settled = (record { proper = proper.0; grounded = one.of_set }, rest.settled);
      grounded = (one.of_entry, rest.grounded);
    }

-- ---- a step

none_grounded : (g : StepContext) (ps : List PlacedSet) (es : List JudgedSetValue) → is_empty es ≡ true
    → StepGrounded g (with_entries ps es) es
none_grounded g ps [] h = record { settled = subst (AreSettled g.judge.answers g.earlier) (sym (without_entries ps)) tt; grounded = tt }
none_grounded g ps (e ∷ es) h = cc

judged_proper : (depth : ℕ) (told : Told) → AllByRecursion (λ p. IsProper p.set) (judged_part depth told)
judged_proper depth told = each_filter (λ p. IsProper p.set) _ (placed_sets told) (proper_placed told)

class_grounded : (g : StepContext) (step : AskedValue) (told : Told) (o : Option Rr) → FromNothing g
    → judged_holds g step told o ≡ true
    → StepGrounded g (with_entries (judged_part step.depth told) step.sets) step.sets
class_grounded g step told (Some r) settled h =
    none_grounded g (judged_part step.depth told) step.sets
    ((and_parts (is_empty step.sets) (is_empty step.excuse) ((and_parts (is_foreign r step.ending) (is_bare step) h).1)).0)
class_grounded g step told None settled h =
    let placed = judged_part step.depth told in
    let ends = ending_holds g step told (outcome_of g.limits step.query told (with_entries placed step.sets)) in
    entries_grounded g placed step.sets settled (judged_proper step.depth told) ((and_parts (entries_hold g placed step.sets) ends h).0)

records_grounded : (g : StepContext) (step : AskedValue) (told : Told) (b : Bool) → FromNothing g
    → (if b then judged_holds g step told (foreign_record step.query told) else is_seen step.ending && is_bare step) ≡ true
    → StepGrounded g (with_entries (judged_part step.depth told) step.sets) step.sets
records_grounded g step told true settled h = class_grounded g step told (foreign_record step.query told) settled h
records_grounded g step told false settled h =
    none_grounded g (judged_part step.depth told) step.sets
    ((and_parts (is_empty step.sets) (is_empty step.excuse) ((and_parts (is_seen step.ending) (is_bare step) h).1)).0)

-- the judged sets of a step that heard this
abbrev sets_heard : AskedValue → HeardValue → List MarkedSet
sets_heard step heard = option_map_or (λ told. with_entries (judged_part step.depth told) step.sets) (told_in heard) []

heard_grounded : (g : StepContext) (step : AskedValue) (heard : HeardValue) → FromNothing g
    → step_holds_by g step heard ≡ true
    → StepGrounded g (sets_heard step heard) step.sets
heard_grounded g step Fault settled h =
    let none = (and_parts (is_empty step.sets) (is_empty step.excuse) ((and_parts (is_failed step.ending) (is_bare step) h).1)).0 in
    record { settled = tt; grounded = (none_grounded g [] step.sets none).grounded }
heard_grounded g step (Records told empty) settled h = records_grounded g step told step.judged settled h

step_grounded : (j : Judge) (limits : Limits) (earlier : List AskedValue) (step : AskedValue)
    → StepsSettled j.answers earlier earlier
    → step_holds j limits [] earlier step ≡ true
    → StepGrounded (step_context_of j limits [] earlier step) (judged_sets step) step.sets
unfolding step_holds
step_grounded j limits earlier step settled h =
    heard_grounded (step_context_of j limits [] earlier step) step step.reply (settled, refl) h

-- ---- one step after another

settled_later : (verifier : VerifierAnswers) (earlier more : List AskedValue) (sets : List MarkedSet)
    → AreSettled verifier earlier sets
    → AreSettled verifier (earlier ++ more) sets
settled_later verifier earlier more sets h =
    each_more (IsSettled verifier earlier) (IsSettled verifier (earlier ++ more)) (λ s i. record {
      proper = i.proper;
      grounded = λ insecure. any_front (is_ground verifier s.set.owner) earlier more (i.grounded insecure);
    }) sets h

steps_settled_later : (verifier : VerifierAnswers) (earlier more steps : List AskedValue)
    → StepsSettled verifier earlier steps
    → StepsSettled verifier (earlier ++ more) steps
steps_settled_later verifier earlier more steps h =
    each_more (λ step. AreSettled verifier earlier (judged_sets step)) (λ step. AreSettled verifier (earlier ++ more) (judged_sets step))
    (λ step i. settled_later verifier earlier more (judged_sets step) i) steps h

-- the sets of the step behind these have their grounds among these
entry_numbered : (verifier : VerifierAnswers) (earlier more : List AskedValue) (insecure : Bool) (owner : Labels)
    → (insecure ≡ true → Grounded verifier earlier owner)
    → (not insecure || has_ground verifier (earlier ++ more) (length earlier) owner) ≡ true
entry_numbered verifier earlier more true owner h = ap (λ steps. list_any (is_ground verifier owner) steps) (take-front earlier more)
    ∙ h refl
entry_numbered verifier earlier more false owner h = refl

entries_numbered : (verifier : VerifierAnswers) (earlier more : List AskedValue) (entries : List JudgedSetValue)
    → AllByRecursion (λ entry. is_insecure entry.mark ≡ true → Grounded verifier earlier entry.owner) entries
    → list_all (is_grounded verifier (earlier ++ more) (length earlier)) entries ≡ true
entries_numbered verifier earlier more [] h = refl
entries_numbered verifier earlier more (e ∷ es) h =
    and_from (is_grounded verifier (earlier ++ more) (length earlier) e)
    (list_all (is_grounded verifier (earlier ++ more) (length earlier)) es)
    (entry_numbered verifier earlier more (is_insecure e.mark) e.owner h.0) (entries_numbered verifier earlier more es h.1)

-- each set of the steps of a trail from a number on
abbrev grounded_from : VerifierAnswers → List AskedValue → ℕ → List AskedValue → Bool
grounded_from verifier trail number steps =
    list_all (λ step. list_all (is_grounded verifier trail step.0) step.1.sets) (enumerate_from number steps)

steps_grounded : (j : Judge) (limits : Limits) (earlier steps : List AskedValue)
    → StepsSettled j.answers earlier earlier
    → steps_hold j limits [] earlier steps ≡ true
    → grounded_from j.answers (earlier ++ steps) (length earlier) steps ≡ true
unfolding steps_hold
steps_grounded j limits earlier [] settled h = refl
steps_grounded j limits earlier (step ∷ steps) settled h =
    let V = j.answers in
    let parts = and_parts (step_holds j limits [] earlier step) (steps_hold j limits [] (earlier ++ step ∷ []) steps) h in
    let one = step_grounded j limits earlier step settled parts.0 in
    let trail = earlier ++ step ∷ steps in
    let next : StepsSettled V (earlier ++ step ∷ []) (earlier ++ step ∷ []) =
    each_append (λ s. AreSettled V (earlier ++ step ∷ []) (judged_sets s)) earlier (step ∷ [])
    (steps_settled_later V earlier (step ∷ []) earlier settled)
    (settled_later V earlier (step ∷ []) (judged_sets step) one.settled, tt) in
    let rest = steps_grounded j limits (earlier ++ step ∷ []) steps next parts.1 in
    let later : grounded_from V trail (length earlier + 1) steps ≡ true =
    subst (λ n. grounded_from V trail n steps ≡ true) (length_push earlier step)
    (subst (λ t. grounded_from V t (length (earlier ++ step ∷ [])) steps ≡ true) (append_assoc earlier (step ∷ []) steps) rest) in
    and_from (list_all (is_grounded V trail (length earlier)) step.sets) (grounded_from V trail (length earlier + 1) steps)
    (entries_numbered V earlier (step ∷ steps) step.sets one.grounded) later

-- the law needs no more of a derivation than that its steps follow, and that nothing was kept before it
pub insecure_is_grounded : (j : Judge) (limits : Limits) (trail : List AskedValue) → derivation j limits [] trail ≡ true
    → HasGrounds j.answers trail
unfolding derivation
insecure_is_grounded j limits trail h =
    steps_grounded j (effective limits) [] trail tt ((and_parts (has_order trail) (steps_hold j (effective limits) [] [] trail) h).1)

-- ---- the law, set by set

set_by_set : (verifier : VerifierAnswers) (trail : List AskedValue) (number : ℕ) (sets : List JudgedSetValue)
    → list_all (is_grounded verifier trail number) sets ≡ true
    → AllByRecursion (λ set. is_insecure set.mark ≡ true → has_ground verifier trail number set.owner ≡ true) sets
set_by_set verifier trail number sets h =
    each_all (is_grounded verifier trail number) (λ set. is_insecure set.mark ≡ true → has_ground verifier trail number set.owner ≡ true)
    (λ set k insecure. by_mark (is_insecure set.mark) (has_ground verifier trail number set.owner) insecure k) sets h
  where
    by_mark : (insecure shown : Bool) → insecure ≡ true → (not insecure || shown) ≡ true → shown ≡ true
    by_mark true shown is k = k
    by_mark false shown is k = cc

step_by_step : (verifier : VerifierAnswers) (trail steps : List AskedValue) (first number : ℕ) (step : AskedValue)
    → grounded_from verifier trail first steps ≡ true → slice_get steps number ≡ Some step
    → list_all (is_grounded verifier trail (first + number)) step.sets ≡ true
step_by_step verifier trail [] first number step h is = cc
step_by_step verifier trail (s ∷ steps) first zero step h is =
    let same : s ≡ step = cc in
    let here : first + 0 ≡ first = omega arith in
    let one = and_parts (list_all (is_grounded verifier trail first) s.sets) (grounded_from verifier trail (first + 1) steps) h in
    ap (λ n. list_all (is_grounded verifier trail n) step.sets) here
    ∙ ap (λ (t : AskedValue). list_all (is_grounded verifier trail first) t.sets) (sym same) ∙ one.0
step_by_step verifier trail (s ∷ steps) first (suc number) step h is =
    let here : first + suc number ≡ (first + 1) + number = omega arith in
    let one = and_parts (list_all (is_grounded verifier trail first) s.sets) (grounded_from verifier trail (first + 1) steps) h in
    ap (λ n. list_all (is_grounded verifier trail n) step.sets) here ∙ step_by_step verifier trail steps (first + 1) number step one.1 is

-- in a derivation each set that the step with a number marks Insecure has a ground in the steps before it
pub ground_of_insecure : (j : Judge) (limits : Limits) (trail : List AskedValue) (number : ℕ) (step : AskedValue)
    → derivation j limits [] trail ≡ true
    → slice_get trail number ≡ Some step
    → AllByRecursion (λ set. is_insecure set.mark ≡ true → has_ground j.answers trail number set.owner ≡ true) step.sets
ground_of_insecure j limits trail number step h is =
    let here : 0 + number ≡ number = omega arith in
    set_by_set j.answers trail number step.sets
    (subst (λ n. list_all (is_grounded j.answers trail n) step.sets ≡ true) here
    (step_by_step j.answers trail trail 0 number step (insecure_is_grounded j limits trail h) is))
