-- A judged step that heard a straight reply: one entry, that of its set, and an answer without a denial.
use Rattle.std.proofs.Common.{◌≡◌, ℕ, Bool, true, false, not, ◌==◌, List, [], ◌∷◌, ◌++◌, map, Option, None, Some, slice_get, refl, sym, ap, ◌∙◌, subst, zero, suc, arith, if◌then◌else◌}
use Rattle.std.specs.Prelude.{◌&&◌, ◌||◌, nat_lt}
use Rattle.std.specs.Option.{option_map_or, option_and_then}
use Rattle.std.specs.List.{filter, list_any, AllByRecursion}
use Rattle.std.proofs.Math.Logic.{⊎_elim}
use Rattle.std.proofs.lemmas.Bool.{and_parts, and_from, or_cases, or_parts, or_left, or_right, and_right, not-true}
use Rattle.std.proofs.lemmas.Bool.Decides.{nat_tests}
use Rattle.dns_model.specs.declared.proof.Proof.TheVariants.{Bogus}
use Rattle.dns_model.specs.declared.section.Section.TheVariants.{Answer, Authority, Additional}
use Rattle.dns_model.specs.declared.denial.Denial as declared
use Rattle.dns_model.specs.declared.denial.Denial.TheVariants as denial
use Rattle.dns_model.specs.Names.{name_eq, num_labels}
use Rattle.dns_model.specs.Types.{type_cname, type_nsec, type_nsec3}
use Rattle.dns_model.specs.Records.{Rr, RrSet, Question, question_eq}
use Rattle.dns_model.specs.Views.{rrsig_in}
use Rattle.dns_model.specs.Sections.{leaders, sets_of}
use Rattle.dns_model.specs.Chains.{Judge}
use Rattle.dns_model.specs.SoundAnswers.{Told, PlacedSet, in_section, placed_sets, section_eq, is_secure}
use Rattle.dns_model.specs.Trails.{AskedValue, JudgedSetValue, EndingValue, Answered, Denied, Foreign, Failed, Seen}
use Rattle.dns_model.proofs.EachLemmas.{each_more, each_append}
use Rattle.dns_model.proofs.SetLemmas.{name_back, name_trans, number_same, number_refl}
use Rattle.dns_model.proofs.Lists.{empty_is}
use Rattle.dns_rules.specs.Asking.{Limits, is_judged_at, judged_part}
use Rattle.dns_rules.specs.MarkedSets.{MarkedSet, decider}
use Rattle.dns_rules.specs.Denying.{is_denying_as, is_denying, denying, denials, is_hash_denying, hash_denying, hashed_denials}
use Rattle.dns_rules.specs.Outcome.{Outcome, outcome_of, outcome_by_denials, outcome_by_hashed_denials, answers_query, has_answer, answered, is_wildcard_signature, has_wildcard_signature, is_expanded_answer, one_signer, is_insecure_authority, insecure_answer, foreign_record}
use Rattle.dns_rules.specs.Outcome as outcome
use Rattle.dns_rules.specs.Unsigned.{is_empty}
use Rattle.dns_rules.specs.CacheEntries.{EntryValue}
use Rattle.dns_rules.specs.Derivation.{StepContext, told_in, with_entries, is_by_origin, entry_holds, entries_hold, denial_eq, ending_eq, ends_bare, ending_holds, heard_holds, step_holds}
use Rattle.dns_rules.specs.DerivationParts.{with_entry, step_context_of, judged_holds}
use Rattle.dns_laws.specs.Straight.{is_queried}
use Rattle.dns_laws.proofs.TestLemmas.{all_kept, none_found, none_any}
use Rattle.dns_laws.proofs.StraightLemmas.{IsQueried, IsPlain, OfReply, IsOneSet, each_signature}

-- ---- its sets

one_placed : (j : Judge) (q : Question) (told : Told) (set : RrSet) → IsOneSet j q told set
    → placed_sets told ≡ in_section Answer set ∷ []
unfolding sets_of leaders
one_placed j q told set one =
    ap (λ sets. map (in_section Answer) sets ++ map (in_section Authority) (sets_of told.authorities)
    ++ map (in_section Additional) (sets_of told.additionals)) one.sets
    ∙ ap (λ rs. (in_section Answer set ∷ []) ++ map (in_section Authority) (sets_of rs)
    ++ map (in_section Additional) (sets_of told.additionals)) one.authorities
    ∙ ap (λ rs. (in_section Answer set ∷ []) ++ map (in_section Additional) (sets_of rs)) one.additionals

pub one_judged : (j : Judge) (q : Question) (told : Told) (set : RrSet) (depth : ℕ) → IsOneSet j q told set
    → is_judged_at depth set.rtype ≡ true
    → judged_part depth told ≡ in_section Answer set ∷ []
one_judged j q told set depth one kept =
    let test = λ (p : PlacedSet). is_judged_at depth p.set.rtype in
    ap (filter test) (one_placed j q told set one) ∙ all_kept test (in_section Answer set ∷ []) (kept, tt)

-- ---- its class

class_same : (q asked : Question) → question_eq q asked ≡ true → q.class ≡ asked.class
class_same q asked h =
    let one = and_parts (name_eq q.owner asked.owner) ((q.rtype == asked.rtype) && (q.class == asked.class)) h in
    number_same q.class asked.class ((and_parts (q.rtype == asked.rtype) (q.class == asked.class) one.1).1)

class_of : (q : Question) (r : Rr) → OfReply q r → r.class ≡ q.class
class_of q r of = ⊎_elim (λ (queried : IsQueried q r). queried.class) (λ (plain : IsPlain q r). plain.class) of

pub none_foreign : (j : Judge) (q asked : Question) (told : Told) (set : RrSet) → IsOneSet j q told set
    → question_eq q asked ≡ true
    → foreign_record asked told ≡ None
none_foreign j q asked told set one same =
    let test = λ (r : Rr). not (r.class == asked.class) in
    let P = λ (r : Rr). test r ≡ false in
    let native = λ (r : Rr) (of : OfReply q r). ap (λ c. not (c == asked.class)) (class_of q r of ∙ class_same q asked same)
    ∙ ap not (number_refl asked.class) in
    let answers : AllByRecursion P told.answers = each_more (OfReply q) P native told.answers one.each in
    let authorities : AllByRecursion P told.authorities = subst (AllByRecursion P) (sym one.authorities) tt in
    let additionals : AllByRecursion P told.additionals = subst (AllByRecursion P) (sym one.additionals) tt in
    none_found test (told.answers ++ told.authorities ++ told.additionals)
    (each_append P (told.answers ++ told.authorities) told.additionals
    (each_append P told.answers told.authorities answers authorities) additionals)

-- ---- what it comes to

any_more : (p q : Rr → Bool) (xs : List Rr) → ((x : Rr) → p x ≡ true → q x ≡ true) → list_any p xs ≡ true
    → list_any q xs ≡ true
any_more p q [] more h = cc
any_more p q (x ∷ xs) more h =
    ⊎_elim (λ here. or_left (q x) (list_any q xs) (more x here)) (λ later. or_right (q x) (list_any q xs) (any_more p q xs more later))
    (or_cases (p x) (list_any p xs) h)

queried_answers : (q asked : Question) (r : Rr) → question_eq q asked ≡ true → is_queried q r ≡ true
    → answers_query asked r ≡ true
queried_answers q asked r same h =
    let one = and_parts (name_eq q.owner asked.owner) ((q.rtype == asked.rtype) && (q.class == asked.class)) same in
    let rtype = number_same q.rtype asked.rtype ((and_parts (q.rtype == asked.rtype) (q.class == asked.class) one.1).0) in
    let two = and_parts (name_eq q.owner r.owner) ((r.rtype == q.rtype) && (r.class == q.class)) h in
    let of_type = (and_parts (r.rtype == q.rtype) (r.class == q.class) two.1).0 in
    and_from (name_eq asked.owner r.owner) ((r.rtype == asked.rtype) || (r.rtype == type_cname))
    (name_trans asked.owner q.owner r.owner (name_back q.owner asked.owner one.0) two.0)
    (or_left (r.rtype == asked.rtype) (r.rtype == type_cname) (ap (λ t. r.rtype == t) (sym rtype) ∙ of_type))

not_less : (n : ℕ) → nat_lt n n ≡ false
not_less n = grind (arith, nat_tests)

plain_is_no_wildcard : (q : Question) (r : Rr) → IsPlain q r → is_wildcard_signature r ≡ false
plain_is_no_wildcard q r plain =
    ap (λ o. option_map_or (λ sig. nat_lt sig.labels (num_labels r.owner)) o false) plain.read
    ∙ ap (λ n. nat_lt n (num_labels r.owner)) plain.labels ∙ not_less (num_labels r.owner)

queried_is_no_wildcard : (q : Question) (r : Rr) → IsQueried q r → is_wildcard_signature r ≡ false
queried_is_no_wildcard q r of =
    ap (λ b. option_map_or (λ sig. nat_lt sig.labels (num_labels r.owner)) (if b then rrsig_in r.rdata else None) false) of.plain

no_wildcard : (q : Question) (r : Rr) → OfReply q r → is_wildcard_signature r ≡ false
no_wildcard q r of = ⊎_elim (queried_is_no_wildcard q r) (plain_is_no_wildcard q r) of

none_at : (test : Rr → Bool) (rs : List Rr) (n : ℕ) → AllByRecursion (λ r. test r ≡ false) rs
    → option_map_or test (slice_get rs n) false ≡ false
none_at test [] n h = refl
none_at test (r ∷ rs) zero h = h.0
none_at test (r ∷ rs) (suc n) h = none_at test rs n h.1

none_placed : (test : Rr → Bool) (rs : List Rr) (o : Option ℕ) → AllByRecursion (λ r. test r ≡ false) rs
    → option_map_or test (option_and_then (slice_get rs) o) false ≡ false
none_placed test rs None h = refl
none_placed test rs (Some n) h = none_at test rs n h

-- the set is none of those by which existence is denied
abbrev pub needs_no_denial : ℕ → Bool
needs_no_denial rtype = not ((rtype == type_nsec) || (rtype == type_nsec3))

-- a set that is none of those, of the answer section, and not expanded from a wildcard
record IsPlainSet (judged : MarkedSet) : Type 0 where
  section : judged.section ≡ Answer
  nsec : (judged.set.rtype == type_nsec) ≡ false
  nsec3 : (judged.set.rtype == type_nsec3) ≡ false
  unexpanded : option_map_or is_wildcard_signature (decider judged) false ≡ false

plain_set : (q : Question) (set : RrSet) (judged : MarkedSet) → AllByRecursion (IsPlain q) set.signatures
    → judged.section ≡ Answer → judged.set ≡ set
    → needs_no_denial set.rtype ≡ true → IsPlainSet judged
plain_set q set judged each section same plain =
    let types = or_parts (set.rtype == type_nsec) (set.rtype == type_nsec3)
    (not-true ((set.rtype == type_nsec) || (set.rtype == type_nsec3)) plain) in
    let plainly = each_more (IsPlain q) (λ r. is_wildcard_signature r ≡ false) (plain_is_no_wildcard q) set.signatures each in
    record {
      section = section;
      nsec = ap (λ s. s.rtype == type_nsec) same ∙ types.0;
      nsec3 = ap (λ s. s.rtype == type_nsec3) same ∙ types.1;
      unexpanded =
          ap (λ s. option_map_or is_wildcard_signature (option_and_then (slice_get s.signatures) judged.sig) false) same
          ∙ none_placed is_wildcard_signature set.signatures judged.sig plainly;
    }

denies_nothing : (rtype : ℕ) (judged : MarkedSet) → IsPlainSet judged → is_denying_as rtype judged ≡ false
denies_nothing rtype judged i = ap (λ s. section_eq Authority s && (is_secure judged.mark && (judged.set.rtype == rtype))) i.section

not_expanded : (judged : MarkedSet) → IsPlainSet judged → is_expanded_answer judged ≡ false
not_expanded judged i =
    let wild = option_map_or is_wildcard_signature (decider judged) false in
    and_right (section_eq Answer judged.section) (is_secure judged.mark && wild) (and_right (is_secure judged.mark) wild i.unexpanded)

decided : (insecure wild denying hashing expanded answer : Bool) (x y z : Outcome) → insecure ≡ false → wild ≡ false
    → denying ≡ false → hashing ≡ false → expanded ≡ false → answer ≡ true
    → (if insecure && not wild then x
    else if denying && hashing then outcome.Denied Bogus
    else if hashing then y
    else if denying then z
    else if expanded then outcome.Denied Bogus
    else if answer && not wild then outcome.Given denial.None
    else outcome.NeedsZone) ≡ outcome.Given denial.None
decided insecure wild denying hashing expanded answer x y z a b c d e f = rw (a, b, c, d, e, f) refl

is_accepted : (j : Judge) (limits : Limits) (q asked : Question) (told : Told) (set : RrSet) (judged : MarkedSet)
    → IsOneSet j q told set → question_eq q asked ≡ true
    → judged.section ≡ Answer → judged.set ≡ set → needs_no_denial set.rtype ≡ true
    → outcome_of limits asked told (judged ∷ []) ≡ outcome.Given denial.None
unfolding outcome_of
is_accepted j limits q asked told set judged one same section is plain =
    let sets : List MarkedSet = judged ∷ [] in
    let each : AllByRecursion (IsPlain q) set.signatures =
    subst (AllByRecursion (IsPlain q)) (sym one.signatures) (each_signature q told.answers one.each) in
    let i = plain_set q set judged each section is plain in
    decided (is_insecure_authority asked told sets) (has_wildcard_signature told) (list_any is_denying sets) (list_any is_hash_denying sets)
    (list_any is_expanded_answer sets) (has_answer asked told) (insecure_answer asked told)
    (outcome_by_hashed_denials limits asked told.code (answered asked told sets) (hashed_denials sets) (one_signer (hash_denying sets)))
    (outcome_by_denials asked told.code (answered asked told sets) (denials sets) (one_signer (denying sets)))
    (subst (λ rs. is_insecure_authority asked (record told { authorities = rs }) sets ≡ false) (sym one.authorities) refl)
    (none_any is_wildcard_signature told.answers
    (each_more (OfReply q) (λ r. is_wildcard_signature r ≡ false) (no_wildcard q) told.answers one.each))
    (none_any is_denying sets (denies_nothing type_nsec judged i, tt))
    (none_any is_hash_denying sets (denies_nothing type_nsec3 judged i, tt))
    (none_any is_expanded_answer sets (not_expanded judged i, tt))
    (any_more (is_queried q) (answers_query asked) told.answers (λ r h. queried_answers q asked r same h) one.any)

-- ---- the step

record OneEntry (g : StepContext) (placed : PlacedSet) (entries : List JudgedSetValue) : Type 0 where
  entry : JudgedSetValue
  is : entries ≡ entry ∷ []
  holds : entry_holds g placed entry ≡ true

one_entry : (g : StepContext) (placed : PlacedSet) (entries : List JudgedSetValue)
    → entries_hold g (placed ∷ []) entries ≡ true → OneEntry g placed entries
unfolding entries_hold
one_entry g placed [] h = cc
one_entry g placed (entry ∷ []) h = record { entry = entry; is = refl; holds = (and_parts (entry_holds g placed entry) true h).0 }
one_entry g placed (entry ∷ other ∷ rest) h = cc ((and_parts (entry_holds g placed entry) false h).1)

origin_of : (g : StepContext) (placed : PlacedSet) (entry : JudgedSetValue) → entry_holds g placed entry ≡ true
    → is_by_origin g placed entry entry.origin ≡ true
unfolding entry_holds
origin_of g placed entry h =
    let section = section_eq placed.section entry.section in
    let owner = name_eq placed.set.owner entry.owner in
    let rtype = placed.set.rtype == entry.rtype in
    let origin = is_by_origin g placed entry entry.origin in
    let one = and_parts section (owner && (rtype && origin)) h in
    let two = and_parts owner (rtype && origin) one.1 in
    (and_parts rtype origin two.1).1

none_same : (d : declared.Denial) → denial_eq denial.None d ≡ true → d ≡ denial.None
none_same denial.None h = refl
none_same (denial.Absent p) h = cc
none_same (denial.Expanded p) h = cc

answered_same : (e : EndingValue) → ending_eq (Answered denial.None) e ≡ true → e ≡ Answered denial.None
answered_same (Answered d) h = ap Answered (none_same d h)
answered_same (Denied p) h = cc
answered_same (Foreign o c t) h = cc
answered_same Failed h = cc
answered_same Seen h = cc

-- a judged step that heard records holds by the first of another class
pub judged_step : (j : Judge) (limits : Limits) (cached : List EntryValue) (earlier : List AskedValue)
    (step : AskedValue) (told : Told)
    → step_holds j limits cached earlier step ≡ true
    → step.judged ≡ true → told_in step.reply ≡ Some told
    → judged_holds (step_context_of j limits cached earlier step) step told (foreign_record step.query told) ≡ true
unfolding step_holds
judged_step j limits cached earlier step told h judged heard =
    let g = step_context_of j limits cached earlier step in
    ap (λ b. if b then judged_holds g step told (foreign_record step.query told) else ends_bare Seen step) (sym judged)
    ∙ ap (λ o. option_map_or (heard_holds g step) o (ends_bare Failed step)) (sym heard) ∙ h

-- what a straight reply makes of a step
pub record IsStraightStep (g : StepContext) (set : RrSet) (step : AskedValue) : Type 0 where
  pub entry : JudgedSetValue
  pub sets : step.sets ≡ entry ∷ []
  pub origin : is_by_origin g (in_section Answer set) entry entry.origin ≡ true
  pub ending : step.ending ≡ Answered denial.None
  pub excuse : step.excuse ≡ []

pub straight_step : (j : Judge) (limits : Limits) (cached : List EntryValue) (earlier : List AskedValue)
    (step : AskedValue) (q : Question)
    (told : Told) (set : RrSet)
    → step_holds j limits cached earlier step ≡ true → step.judged ≡ true → told_in step.reply ≡ Some told
    → question_eq q step.query ≡ true
    → IsOneSet j q told set → is_judged_at step.depth set.rtype ≡ true → needs_no_denial set.rtype ≡ true
    → IsStraightStep (step_context_of j limits cached earlier step) set step
straight_step j limits cached earlier step q told set h judged heard same one kept plain =
    let g = step_context_of j limits cached earlier step in
    let placed = judged_part step.depth told in
    let parts = and_parts (entries_hold g placed step.sets)
    (ending_holds g step told (outcome_of limits step.query told (with_entries placed step.sets)))
    (ap (judged_holds g step told) (sym (none_foreign j q step.query told set one same))
    ∙ judged_step j limits cached earlier step told h judged heard) in
    let alone = one_judged j q told set step.depth one kept in
    let entry = one_entry g (in_section Answer set) step.sets (ap (λ ps. entries_hold g ps step.sets) (sym alone) ∙ parts.0) in
    let sets : with_entries placed step.sets ≡ with_entry (in_section Answer set, entry.entry) ∷ [] =
    ap (λ ps. with_entries ps step.sets) alone ∙ ap (with_entries (in_section Answer set ∷ [])) entry.is in
    let outcome_is : outcome_of limits step.query told (with_entries placed step.sets) ≡ outcome.Given denial.None =
    ap (outcome_of limits step.query told) sets
    ∙ is_accepted j limits q step.query told set (with_entry (in_section Answer set, entry.entry)) one same refl refl plain in
    let ends = and_parts (ending_eq (Answered denial.None) step.ending) (is_empty step.excuse)
    (ap (ending_holds g step told) (sym outcome_is) ∙ parts.1) in
    record {
      entry = entry.entry;
      sets = entry.is;
      origin = origin_of g (in_section Answer set) entry.entry entry.holds;
      ending = answered_same step.ending ends.0;
      excuse = empty_is step.excuse ends.1;
    }
