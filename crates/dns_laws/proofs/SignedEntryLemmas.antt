-- The entry of a set that isn't DNSKEY and has one signature: it asks for the signer's keys, and is Secure by them.
use Rattle.std.proofs.Common.{◌≡◌, ℕ, ◌+◌, Bool, true, false, not, ◌==◌, List, [], ◌∷◌, take, None, Some, refl, sym, ap, ◌∙◌, if◌then◌else◌}
use Rattle.std.specs.Prelude.{◌&&◌, ◌||◌}
use Rattle.std.specs.Option.{option_map, option_map_or}
use Rattle.std.specs.List.{find, list_any}
use Rattle.std.proofs.lemmas.Bool.{and_parts, and_from, or_parts, or_from, and_left, and_right, not-true, not_from_true}
use Rattle.dns_model.specs.declared.proof.Proof.TheVariants.{Secure}
use Rattle.dns_model.specs.declared.section.Section.TheVariants.{Answer}
use Rattle.dns_model.specs.declared.trail.AskRef.{AskRef}
use Rattle.dns_model.specs.Names.{Labels, name_eq, num_labels, parent}
use Rattle.dns_model.specs.Types.{type_ds, type_nsec, type_dnskey, type_nsec3}
use Rattle.dns_model.specs.Views.{RrsigValue}
use Rattle.dns_model.specs.Records.{Rr, RrSet, Question, question_eq}
use Rattle.dns_model.specs.RecordViews.{rrsig_of}
use Rattle.dns_model.specs.Chains.{Judge, signer_fits, never_expanded, right_below_signer}
use Rattle.dns_model.specs.SoundAnswers.{PlacedSet, in_section, section_eq}
use Rattle.dns_model.specs.Trails.{JudgedSetValue}
use Rattle.dns_model.proofs.SetLemmas.{name_trans, number_refl}
use Rattle.dns_model.proofs.TestLemmas.{if_some}
use Rattle.dns_model.proofs.QuestionLemmas.{same_parts}
use Rattle.dns_rules.specs.Validity.{is_good_by}
use Rattle.dns_rules.specs.MarkedSets.{MarkedSet}
use Rattle.dns_rules.specs.Marks.{Verdict, Proved, is_proved, is_skipped, key_question, counted_keys, is_key_set_of, by_keys, verdict_of, judged_by, most_signatures}
use Rattle.dns_rules.specs.Marks as marks
use Rattle.dns_rules.specs.Unsigned.{is_empty, needs_zone}
use Rattle.dns_rules.specs.Asking.{ask_of}
use Rattle.dns_rules.specs.Derivation.{StepContext, finished_answer, is_ask, verdicts_after, verdicts_asked, verdicts_by, proof_eq, has_mark_of, keys_hold, unsigned_holds, is_by_rules}
use Rattle.dns_rules.specs.DerivationParts.{is_by_verdicts, after_verdict, if_last, place_eq, is_ask_for}
use Rattle.dns_rules.proofs.ExtendLemmas.{proof_same}
use Rattle.dns_laws.specs.Valid.{is_proved_by_keys}
use Rattle.dns_laws.proofs.TestLemmas.{passing, any_found, found_alone}
use Rattle.dns_laws.proofs.StraightLemmas.{IsSigned}
use Rattle.dns_laws.proofs.StraightStepLemmas.{needs_no_denial}

-- a set that is Secure in the answer section
pub record IsSecureSet (set : RrSet) (judged : MarkedSet) : Type 0 where
  pub section : judged.section ≡ Answer
  pub is : judged.set ≡ set
  pub mark : judged.mark ≡ Secure

-- ---- the ask

-- the signature fits, and its signer's keys come next
pub record IsKeysAsk (j : Judge) (set : RrSet) (next : Question) (keys : RrSet) (r : Rr) : Type 0 where
  pub sig : RrsigValue
  pub read : rrsig_of r ≡ Some sig
  pub fits : signer_fits set.rtype sig.signer set.owner ≡ true
  pub next_is : question_eq (key_question set.class sig.signer) next ≡ true
  pub good : list_any (is_good_by j set r) (counted_keys sig.signer keys.records) ≡ true

pub keys_ask : (j : Judge) (set : RrSet) (next : Question) (keys : RrSet) (r : Rr) → is_proved_by_keys j set next keys r ≡ true
    → IsKeysAsk j set next keys r
keys_ask j set next keys r h =
    let test = λ (sig : RrsigValue).
    signer_fits set.rtype sig.signer set.owner && (question_eq (key_question set.class sig.signer) next
    && list_any (is_good_by j set r) (counted_keys sig.signer keys.records)) in
    let read = passing test (rrsig_of r) h in
    let sig = read.value in
    let one = and_parts (signer_fits set.rtype sig.signer set.owner)
    (question_eq (key_question set.class sig.signer) next && list_any (is_good_by j set r) (counted_keys sig.signer keys.records))
    read.passes in
    let two = and_parts (question_eq (key_question set.class sig.signer) next)
    (list_any (is_good_by j set r) (counted_keys sig.signer keys.records)) one.1 in
    record { sig = sig; read = read.found; fits = one.0; next_is = two.0; good = two.1 }

-- no ask of a set that isn't DNSKEY is for its own query
not_itself : (class : ℕ) (signer : Labels) (asked : Question) → (type_dnskey == asked.rtype) ≡ false
    → question_eq (key_question class signer) asked ≡ false
not_itself class signer asked other =
    and_right (name_eq signer asked.owner) ((type_dnskey == asked.rtype) && (class == asked.class))
    (and_left (type_dnskey == asked.rtype) (class == asked.class) other)

not_skipped : (j : Judge) (set : RrSet) (next asked : Question) (keys : RrSet) (r : Rr) → IsKeysAsk j set next keys r
    → (type_dnskey == asked.rtype) ≡ false → is_skipped asked set r ≡ false
not_skipped j set next asked keys r ask other =
    let signer = ask.sig.signer in
    ap (λ o. option_map_or (λ sig. not (signer_fits set.rtype sig.signer set.owner)
    || question_eq (key_question set.class sig.signer) asked) o true) ask.read
    ∙ or_from (not (signer_fits set.rtype signer set.owner)) (question_eq (key_question set.class signer) asked)
    (not_from_true (signer_fits set.rtype signer set.owner) ask.fits) (not_itself set.class signer asked other)

-- ---- the entry

-- one ask stands in it, and its mark is by the verdict of the signature
pub record IsByOneAsk (g : StepContext) (placed : PlacedSet) (r : Rr) (q : Question) (entry : JudgedSetValue) : Type 0 where
  pub ask : AskRef
  pub alone : entry.asked ≡ ask ∷ []
  pub asks : is_ask g.limits.depth g.earlier (g.depth + 1) q ask ≡ true
  pub marked : has_mark_of (judged_by placed (verdict_of g.judge placed.set r (finished_answer g.earlier ask) ∷ [])) entry ≡ true

-- the verdicts of one signature whose ask came first
record IsLastAsk (v : Verdict) (asks : List AskRef) (vs : List Verdict) : Type 0 where
  none : asks ≡ []
  verdicts : vs ≡ v ∷ []

last_ask : (b : Bool) (v : Verdict) (asks : List AskRef) (vs : List Verdict)
    → (if b then if_last asks (v ∷ []) else after_verdict v (if_last asks [])) ≡ Some vs → IsLastAsk v asks vs
last_ask true v [] vs h = record { none = refl; verdicts = cc }
last_ask true v (ask ∷ asks) vs h = cc
last_ask false v [] vs h = record { none = refl; verdicts = cc }
last_ask false v (ask ∷ asks) vs h = cc

-- what is asked of one signature that isn't skipped
record IsFirstAsk (g : StepContext) (set : RrSet) (r : Rr) (q : Question) (asks : List AskRef) (vs : List Verdict) : Type 0 where
  ask : AskRef
  alone : asks ≡ ask ∷ []
  asks_for : is_ask g.limits.depth g.earlier (g.depth + 1) q ask ≡ true
  verdicts : vs ≡ verdict_of g.judge set r (finished_answer g.earlier ask) ∷ []

first_ask : (g : StepContext) (set : RrSet) (r : Rr) (q : Question) (asks : List AskRef) (vs : List Verdict) → ask_of set r ≡ Some q
    → is_skipped g.query set r ≡ false → verdicts_by g set (r ∷ []) asks ≡ Some vs → IsFirstAsk g set r q asks vs
unfolding verdicts_by
first_ask g set r q [] vs is kept h =
    cc (ap (λ b. if b then option_map (λ ws. marks.Failed ∷ ws) (verdicts_by g set [] [])
    else verdicts_asked g set r [] (verdicts_by g set [])) (sym kept) ∙ h)
first_ask g set r q (ask ∷ asks) vs is kept h =
    let v = verdict_of g.judge set r (finished_answer g.earlier ask) in
    let asked : verdicts_asked g set r (ask ∷ asks) (verdicts_by g set []) ≡ Some vs =
    ap (λ b. if b then option_map (λ ws. marks.Failed ∷ ws) (verdicts_by g set [] (ask ∷ asks))
    else verdicts_asked g set r (ask ∷ asks) (verdicts_by g set [])) (sym kept) ∙ h in
    let parts = if_some (is_ask_for g (Some q) ask) (verdicts_after v asks (verdicts_by g set [])) vs
    (ap (λ o. if is_ask_for g o ask then verdicts_after v asks (verdicts_by g set []) else None) (sym is) ∙ asked) in
    let last = last_ask (is_proved v) v asks vs parts.1 in
    record { ask = ask; alone = ap (λ rest. ask ∷ rest) last.none; asks_for = parts.0; verdicts = last.verdicts }

pub one_ask : (g : StepContext) (q next : Question) (set keys : RrSet) (entry : JudgedSetValue) (signed : IsSigned q set)
    → (ask : IsKeysAsk g.judge set next keys signed.signature) → (set.rtype == type_dnskey) ≡ false → (type_dnskey == g.query.rtype) ≡ false
    → is_by_rules g (in_section Answer set) entry ≡ true
    → IsByOneAsk g (in_section Answer set) signed.signature (key_question set.class ask.sig.signer) entry
one_ask g q next set keys entry signed ask other asked h =
    let placed = in_section Answer set in
    let r = signed.signature in
    let question = key_question set.class ask.sig.signer in
    let verdicts = verdicts_by g set (take most_signatures set.signatures) entry.asked in
    let searched : needs_zone set ≡ false = ap (λ rs. is_empty rs && not (set.rtype == type_ds)) signed.alone in
    let by : is_by_verdicts placed entry verdicts ≡ true =
    ap (λ b. if b then unsigned_holds g placed entry else is_by_verdicts placed entry verdicts) (sym searched)
    ∙ ap (λ b. if b then keys_hold g placed entry else if needs_zone set then unsigned_holds g placed entry
    else is_by_verdicts placed entry verdicts) (sym other)
    ∙ h in
    let some = passing (λ vs. has_mark_of (judged_by placed vs) entry) verdicts by in
    let first = first_ask g set r question entry.asked some.value (ap (option_map (λ sig. key_question set.class sig.signer)) ask.read)
    (not_skipped g.judge set next g.query keys r ask asked)
    (ap (λ rs. verdicts_by g set (take most_signatures rs) entry.asked) (sym signed.alone) ∙ some.found) in
    record {
      ask = first.ask;
      alone = first.alone;
      asks = first.asks_for;
      marked = ap (λ vs. has_mark_of (judged_by placed vs) entry) (sym first.verdicts) ∙ some.passes;
    }

-- ---- the mark

is_key_set : (j : Judge) (set : RrSet) (next : Question) (keys : RrSet) (r : Rr) (judged : MarkedSet) (ask : IsKeysAsk j set next keys r)
    → name_eq next.owner keys.owner ≡ true → keys.rtype ≡ next.rtype → keys.class ≡ next.class → IsSecureSet keys judged
    → is_key_set_of set.class ask.sig.signer judged ≡ true
is_key_set j set next keys r judged ask owner rtype class secure =
    let signer = ask.sig.signer in
    let same = same_parts (key_question set.class signer) next ask.next_is in
    and_from (section_eq Answer judged.section) (name_eq signer judged.set.owner
    && ((judged.set.rtype == type_dnskey) && (set.class == judged.set.class)))
    (ap (section_eq Answer) secure.section)
    (and_from (name_eq signer judged.set.owner) ((judged.set.rtype == type_dnskey) && (set.class == judged.set.class))
    (ap (λ s. name_eq signer s.owner) secure.is ∙ name_trans signer next.owner keys.owner same.owner owner)
    (and_from (judged.set.rtype == type_dnskey) (set.class == judged.set.class)
    (ap (λ s. s.rtype == type_dnskey) secure.is ∙ ap (λ t. t == type_dnskey) (rtype ∙ sym same.rtype))
    (ap (λ s. set.class == s.class) secure.is ∙ ap (λ c. set.class == c) (class ∙ sym same.class) ∙ number_refl set.class)))

-- where a set needs no denial, no signature of it is refused for a wildcard
never_fails : (rtype labels : ℕ) (signer owner : Labels) → needs_no_denial rtype ≡ true
    → (never_expanded rtype labels owner && right_below_signer rtype signer owner) ≡ true
never_fails rtype labels signer owner plain =
    let none = not-true ((rtype == type_nsec) || (rtype == type_nsec3)) plain in
    let parts = or_parts (rtype == type_nsec) (rtype == type_nsec3) none in
    and_from (never_expanded rtype labels owner) (right_below_signer rtype signer owner)
    (ap (λ b. if b then labels == num_labels owner else true) none) (ap (λ b. if b then name_eq (parent owner) signer else true) parts.1)

pub proved_verdict : (j : Judge) (set : RrSet) (next : Question) (keys : RrSet) (r : Rr) (judged : MarkedSet) → IsKeysAsk j set next keys r
    → name_eq next.owner keys.owner ≡ true → keys.rtype ≡ next.rtype → keys.class ≡ next.class → needs_no_denial set.rtype ≡ true
    → IsSecureSet keys judged → verdict_of j set r (Some (judged ∷ [])) ≡ Proved
unfolding verdict_of
proved_verdict j set next keys r judged ask owner rtype class plain secure =
    let sig = ask.sig in
    let test = is_key_set_of set.class sig.signer in
    let by = λ (s : MarkedSet). by_keys j set r s.mark (counted_keys sig.signer s.set.records) in
    let counted = counted_keys sig.signer keys.records in
    let found = any_found (is_good_by j set r) counted ask.good in
    ap (λ o.
    option_map_or
    (λ (s : RrsigValue).
    if never_expanded set.rtype s.labels set.owner && right_below_signer set.rtype s.signer set.owner
    then option_map_or (λ keys. by_keys j set r keys.mark (counted_keys s.signer keys.set.records))
    (find (is_key_set_of set.class s.signer) (judged ∷ [])) marks.Failed
    else marks.Failed)
    o marks.Failed) ask.read
    ∙ ap (λ b. if b then option_map_or by (find test (judged ∷ [])) marks.Failed
    else marks.Failed) (never_fails set.rtype sig.labels sig.signer set.owner plain)
    ∙ ap (λ o. option_map_or by o marks.Failed) (found_alone test judged (is_key_set j set next keys r judged ask owner rtype class secure))
    ∙ ap (λ m. by_keys j set r m (counted_keys sig.signer judged.set.records)) secure.mark
    ∙ ap (λ s. by_keys j set r Secure (counted_keys sig.signer s.records)) secure.is
    ∙ ap (λ o. option_map_or (λ key. Proved) o marks.Failed) found.found

-- the entry whose ask found these keys is Secure
pub signed_mark : (g : StepContext) (next : Question) (set keys : RrSet) (r : Rr) (question : Question) (entry : JudgedSetValue)
    (judged : MarkedSet)
    → (by : IsByOneAsk g (in_section Answer set) r question entry) → IsKeysAsk g.judge set next keys r
    → name_eq next.owner keys.owner ≡ true → keys.rtype ≡ next.rtype → keys.class ≡ next.class → needs_no_denial set.rtype ≡ true
    → finished_answer g.earlier by.ask ≡ Some (judged ∷ []) → IsSecureSet keys judged → entry.mark ≡ Secure
unfolding judged_by
signed_mark g next set keys r question entry judged by ask owner rtype class plain answer secure =
    let placed = in_section Answer set in
    let verdict = ap (verdict_of g.judge set r) answer ∙ proved_verdict g.judge set next keys r judged ask owner rtype class plain secure in
    let marked : has_mark_of (judged_by placed (Proved ∷ [])) entry ≡ true =
    ap (λ v. has_mark_of (judged_by placed (v ∷ [])) entry) (sym verdict) ∙ by.marked in
    sym (proof_same Secure entry.mark ((and_parts (proof_eq Secure entry.mark) (place_eq (Some 0) entry.sig) marked).0))
