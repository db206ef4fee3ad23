-- Completeness: a derivation whose steps heard a valid session proves its query.
use Rattle.std.proofs.Common.{◌≡◌, ◌⊎◌, inl, inr, ℕ, ◌+◌, ◌-◌, ◌<◌, Bool, true, false, not, ◌==◌, List, [], ◌∷◌, ◌++◌, length, take, Option, None, Some, refl, sym, ap, ◌∙◌, subst, arith, if◌then◌else◌}
use Rattle.std.specs.Prelude.{◌&&◌, ◌||◌, nat_le}
use Rattle.std.specs.Option.{option_map_or}
use Rattle.std.specs.List.{list_any, list_all}
use Rattle.std.proofs.Math.Logic.{⊎_elim}
use Rattle.std.proofs.Math.Nat.{min-le_right}
use Rattle.std.proofs.lemmas.Bool.{and_parts, or_cases, or_from, or_parts, not-true, not_from_false, true≢false}
use Rattle.std.proofs.lemmas.Option.{same_Some, slice_get_within}
use Rattle.dns_model.specs.declared.proof.Proof.TheVariants.{Secure}
use Rattle.dns_model.specs.declared.section.Section.TheVariants.{Answer}
use Rattle.dns_model.specs.declared.trail.AskRef.{AskRef}
use Rattle.dns_model.specs.Names.{name_eq}
use Rattle.dns_model.specs.Types.{class_in, type_soa, type_ds, type_opt, type_rrsig, type_nsec, type_dnskey, type_nsec3}
use Rattle.dns_model.specs.Records.{Rr, RrSet, Question, question_eq}
use Rattle.dns_model.specs.Chains.{Judge}
use Rattle.dns_model.specs.SoundAnswers.{Told, in_section}
use Rattle.dns_model.specs.Trails.{AskedValue}
use Rattle.dns_model.proofs.SetLemmas.{number_same, number_back}
use Rattle.dns_model.proofs.QuestionLemmas.{same_parts, question_refl}
use Rattle.dns_rules.specs.Asking.{Limits, effective, is_judged_at}
use Rattle.dns_rules.specs.MarkedSets.{MarkedSet}
use Rattle.dns_rules.specs.KeySets.{is_anchored_key}
use Rattle.dns_rules.specs.Outcome.{foreign_record}
use Rattle.dns_rules.specs.Marking.{marked_section}
use Rattle.dns_rules.specs.Marks.{key_question}
use Rattle.dns_rules.specs.Delegations.{ds_question}
use Rattle.dns_rules.specs.CacheEntries.{EntryValue}
use Rattle.dns_rules.specs.Derivation.{is_by_rules, judged_sets, finished_answer, if_answered, top_step, in_send_order, derivation}
use Rattle.dns_rules.specs.DerivationParts.{steps_at}
use Rattle.dns_rules.proofs.DerivedLemmas.{derivation_parts}
use Rattle.dns_rules.proofs.SentLemmas.{numbered}
use Rattle.dns_laws.specs.Complete.{Upstream, HeardAlong, AreAsked, are_secure, shows_secure, ProvesQuery}
use Rattle.dns_laws.specs.Valid.{is_plain_query, straight_set, is_anchored_set, is_proved_by_keys, is_proved_by_ds, is_proved_by, leads_to_anchor, IsValidSession}
use Rattle.dns_laws.proofs.TestLemmas.{passing}
use Rattle.dns_laws.proofs.StraightLemmas.{is_other, IsOneSet, answered, IsSigned, IsUnsigned, signed_or_anchored}
use Rattle.dns_laws.proofs.StraightStepLemmas.{needs_no_denial, none_foreign}
use Rattle.dns_laws.proofs.SignedEntryLemmas.{IsSecureSet, keys_ask, one_ask, signed_mark}
use Rattle.dns_laws.proofs.KeyEntryLemmas.{IsOneOrNone, anchored_entry, ds_proof, ds_asked, ds_mark}
use Rattle.dns_laws.proofs.OrderPathLemmas.{none_met, none_ends}
use Rattle.dns_laws.proofs.RankLemmas.{rank, name_lengths, same_rank, keys_lower, ds_lower}
use Rattle.dns_laws.proofs.SecureRecordLemmas.{secure_records}
use Rattle.dns_laws.proofs.PathLemmas.{Walk, IsAt, here, HasEntry, ByRules, Served, rules, AreFirst, one_more, IsShown, Stand, context_at, entry_at, shown_by, IsAsked, IsLower, asked_next}

-- ---- one set

one_or_none : (j : Judge) (q : Question) (set : RrSet) → IsSigned q set ⊎ IsUnsigned j set → IsOneOrNone set
one_or_none j q set (inl signed) = inl (signed.signature, signed.alone)
one_or_none j q set (inr none) = inr none.none

-- a set that isn't DNSKEY has a signature
has_signature : (j : Judge) (q : Question) (set : RrSet) → IsSigned q set ⊎ IsUnsigned j set → (set.rtype == type_dnskey) ≡ false
    → IsSigned q set
has_signature j q set (inl signed) other = signed
has_signature j q set (inr none) other =
    absurd (true≢false (sym ((and_parts (set.rtype == type_dnskey) (list_all (is_anchored_key j set) set.records) none.anchored).0)
    ∙ other))

only_one : (test : Rr → Bool) (rs : List Rr) (r : Rr) → rs ≡ r ∷ [] → list_any test rs ≡ true → test r ≡ true
only_one test rs r is h =
    ⊎_elim (λ (here : test r ≡ true). here) (λ (later : false ≡ true). cc) (or_cases (test r) false (ap (list_any test) (sym is) ∙ h))

-- ---- the query after it

depth_or : (b : Bool) → (b || true || (type_dnskey == type_ds) || (type_dnskey == type_nsec) || (type_dnskey == type_nsec3)
    || (type_dnskey == type_soa)) ≡ true
depth_or true = refl
depth_or false = refl

ds_depth_or : (b : Bool) → (b || (type_ds == type_dnskey) || true || (type_ds == type_nsec) || (type_ds == type_nsec3)
    || (type_ds == type_soa)) ≡ true
ds_depth_or true = refl
ds_depth_or false = refl

keys_are_lower : (q next : Question) (question : Question) → question.rtype ≡ type_dnskey → question_eq question next ≡ true
    → rank question < rank q → IsLower q next
keys_are_lower q next question keys same lower =
    let rtype : type_dnskey ≡ next.rtype = sym keys ∙ (same_parts question next same).rtype in
    let as_high = same_rank question next same in
    record {
      plain = ap needs_no_denial (sym rtype);
      other = ap (λ t. t == type_rrsig) (sym rtype);
      kept = λ depth. ap (is_judged_at depth) (sym rtype) ∙ depth_or (depth == 0);
      lower = omega arith;
    }

ds_is_lower : (q next : Question) (question : Question) → question.rtype ≡ type_ds → question_eq question next ≡ true
    → rank question < rank q → IsLower q next
ds_is_lower q next question ds same lower =
    let rtype : type_ds ≡ next.rtype = sym ds ∙ (same_parts question next same).rtype in
    let as_high = same_rank question next same in
    record {
      plain = ap needs_no_denial (sym rtype);
      other = ap (λ t. t == type_rrsig) (sym rtype);
      kept = λ depth. ap (is_judged_at depth) (sym rtype) ∙ ds_depth_or (depth == 0);
      lower = omega arith;
    }

-- ---- the end of the list

-- the entry of the step's one set is by the rules
abbrev IsByRules : {R : Type 0} (w : Walk R) (q : Question) (rest : List Question) → Stand w q rest → Type 0
IsByRules w q rest s = is_by_rules (context_at w q rest s) (in_section Answer s.set) (entry_at w q rest s) ≡ true

shown_last : {R : Type 0} (w : Walk R) (q : Question) (s : Stand w q []) → IsByRules w q [] s
    → (s.set.rtype == type_dnskey) ≡ true → is_anchored_set w.judge s.set ≡ true → IsShown w q [] s.n s.step s.more
shown_last w q s by_rules keys anchored =
    let one = one_or_none w.judge q s.set (signed_or_anchored w.judge q s.here.told s.set s.here.one) in
    let entry = anchored_entry (context_at w q [] s) s.set (entry_at w q [] s) one keys anchored by_rules in
    let none = s.here.asks ∙ entry.none in
    let more_none = none_met w.trail s.n s.step s.met w.order s.here.on none in
    let first : AreFirst w [] s.n = record {
      front = [];
      unused = [];
      whole = refl;
      all = λ nothing. refl;
      number = none_ends w.trail s.n (s.n + 1) s.step s.here.ends none;
    } in
    shown_by w q [] s entry.mark first (subst (λ ns. AreAsked [] (numbered w.trail ns)) (sym more_none) tt)

-- ---- the list goes on

-- what the rest of the list shows of the next query
abbrev pub ShowsNext : {R : Type 0} → Walk R → Question → List Question → Type 0
ShowsNext {R} w next rest =
    (r : R) (n : ℕ) (step : AskedValue) (met more : List ℕ) → IsAt w next rest r n step met more → IsShown w next rest n step more

-- the ask found the set that the list names, Secure
record IsNextSet {R : Type 0} (w : Walk R) (next : Question) (n : ℕ) (ask : AskRef) (above : RrSet) : Type 0 where
  judged : MarkedSet
  answer : finished_answer (take n w.trail) ask ≡ Some (judged ∷ [])
  secure : IsSecureSet above judged
  owner : name_eq next.owner above.owner ≡ true
  rtype : above.rtype ≡ next.rtype
  class : above.class ≡ next.class

next_set : {R : Type 0} (w : Walk R) (next : Question) (rest : List Question) (r : R) (n : ℕ) (step : AskedValue)
    (met more : List ℕ) (ask : AskRef) (above : RrSet)
    → (asked : IsAsked w next rest r n step met more ask) → IsShown w next rest asked.m asked.asked more
    → straight_set w.judge w.tells next ≡ Some above
    → IsNextSet w next n ask above
next_set w next rest r n step met more ask above asked shown found =
    let same = same_Some shown.set above (sym shown.straight ∙ found) in
    let one = subst (IsOneSet w.judge next shown.told) same shown.one in
    record {
      judged = shown.judged;
      answer = asked.answer ∙ ap (λ e. if_answered e (judged_sets asked.asked)) shown.ending ∙ ap Some shown.sets;
      secure = subst (λ set. IsSecureSet set shown.judged) same shown.secure;
      owner = one.owner;
      rtype = one.rtype;
      class = one.class;
    }

shown_signed : {R : Type 0} (w : Walk R) (q next : Question) (rest : List Question) (s : Stand w q (next ∷ rest)) (above : RrSet)
    → straight_set w.judge w.tells next ≡ Some above → IsByRules w q (next ∷ rest) s → (s.set.rtype == type_dnskey) ≡ false
    → list_any (is_proved_by_keys w.judge s.set next above) s.set.signatures ≡ true → ShowsNext w next rest
    → IsShown w q (next ∷ rest) s.n s.step s.more
shown_signed w q next rest s above found by_rules other proved later =
    let g = context_at w q (next ∷ rest) s in
    let set = s.set in
    let h = s.here in
    let entry = entry_at w q (next ∷ rest) s in
    let signed = has_signature w.judge q set (signed_or_anchored w.judge q h.told set h.one) other in
    let ask = keys_ask w.judge set next above signed.signature
    (only_one (is_proved_by_keys w.judge set next above) set.signatures signed.signature signed.alone proved) in
    let signer = ask.sig.signer in
    let question = key_question set.class signer in
    let rtype : s.set.rtype ≡ s.step.query.rtype = s.here.one.rtype ∙ (same_parts q s.step.query s.at.same).rtype in
    let itself = number_back type_dnskey s.step.query.rtype ∙ ap (λ t. t == type_dnskey) (sym rtype) ∙ other in
    let by = one_ask g q next set above entry signed ask other itself by_rules in
    let lower = keys_lower set.rtype set.class set.owner signer q ask.fits other (sym h.one.rtype)
    (name_lengths q.owner set.owner h.one.owner) in
    let asked = asked_next w q question next rest s.r s.n s.step s.met s.more set by.ask s.at h by.alone by.asks ask.next_is
    (keys_are_lower q next question refl ask.next_is lower) in
    let shown = later (w.up.left s.r s.step.query) asked.m asked.asked (s.met ++ s.n ∷ []) h.on.more asked.at in
    let keys = next_set w next rest s.r s.n s.step s.met h.on.more by.ask above asked shown found in
    let plain : needs_no_denial s.set.rtype ≡ true = ap needs_no_denial s.here.one.rtype ∙ s.at.plain in
    let mark = signed_mark g next set above signed.signature question entry keys.judged by ask keys.owner keys.rtype keys.class
    plain keys.answer keys.secure in
    shown_by w q (next ∷ rest) s mark (one_more w next rest s.n asked.m asked.before shown.first) shown.asked

shown_keys : {R : Type 0} (w : Walk R) (q next : Question) (rest : List Question) (s : Stand w q (next ∷ rest)) (above : RrSet)
    → straight_set w.judge w.tells next ≡ Some above → IsByRules w q (next ∷ rest) s → (s.set.rtype == type_dnskey) ≡ true
    → (not (is_anchored_set w.judge s.set) && is_proved_by_ds w.judge s.set next above) ≡ true → ShowsNext w next rest
    → IsShown w q (next ∷ rest) s.n s.step s.more
shown_keys w q next rest s above found by_rules keys proved later =
    let g = context_at w q (next ∷ rest) s in
    let set = s.set in
    let h = s.here in
    let entry = entry_at w q (next ∷ rest) s in
    let one = one_or_none w.judge q set (signed_or_anchored w.judge q h.told set h.one) in
    let parts = and_parts (not (is_anchored_set w.judge set)) (is_proved_by_ds w.judge set next above) proved in
    let anchored = not-true (is_anchored_set w.judge set) parts.0 in
    let proof = ds_proof w.judge set next above parts.1 in
    let question = ds_question set.class set.owner in
    let by = ds_asked g set entry one keys anchored proof.root by_rules in
    let rtype : s.set.rtype ≡ type_dnskey = number_same s.set.rtype type_dnskey keys in
    let q_rtype : q.rtype ≡ type_dnskey = sym s.here.one.rtype ∙ rtype in
    let lower = ds_lower set.class set.owner q (ap (λ t. t == type_dnskey) q_rtype) (ap (λ t. t == type_ds) q_rtype)
    (name_lengths q.owner set.owner h.one.owner) in
    let asked = asked_next w q question next rest s.r s.n s.step s.met s.more set by.ask s.at h by.alone by.asks proof.next_is
    (ds_is_lower q next question refl proof.next_is lower) in
    let shown = later (w.up.left s.r s.step.query) asked.m asked.asked (s.met ++ s.n ∷ []) h.on.more asked.at in
    let ds = next_set w next rest s.r s.n s.step s.met h.on.more by.ask above asked shown found in
    let mark = ds_mark g next set above entry ds.judged one by anchored proof ds.owner ds.rtype ds.class ds.answer ds.secure in
    shown_by w q (next ∷ rest) s mark (one_more w next rest s.n asked.m asked.before shown.first) shown.asked

shown_next : {R : Type 0} (w : Walk R) (q next : Question) (rest : List Question) (s : Stand w q (next ∷ rest)) (above : RrSet) (b : Bool)
    → straight_set w.judge w.tells next ≡ Some above → IsByRules w q (next ∷ rest) s → (s.set.rtype == type_dnskey) ≡ b
    → (if b then not (is_anchored_set w.judge s.set) && is_proved_by_ds w.judge s.set next above
    else list_any (is_proved_by_keys w.judge s.set next above) s.set.signatures) ≡ true
    → ShowsNext w next rest → IsShown w q (next ∷ rest) s.n s.step s.more
shown_next w q next rest s above true found by_rules keys proved later = shown_keys w q next rest s above found by_rules keys proved later
shown_next w q next rest s above false found by_rules keys proved later =
    shown_signed w q next rest s above found by_rules keys proved later

-- ---- the entry was kept, and ends the list

shown_served : {R : Type 0} (w : Walk R) (q : Question) (rest : List Question) (s : Stand w q rest)
    → (entry_at w q rest s).asked ≡ [] → (entry_at w q rest s).mark ≡ Secure → (w.cached ≡ [] → ⊥)
    → IsShown w q rest s.n s.step s.more
shown_served w q rest s asked mark some =
    let none = s.here.asks ∙ asked in
    let more_none = none_met w.trail s.n s.step s.met w.order s.here.on none in
    let first : AreFirst w rest s.n = record {
      front = [];
      unused = rest;
      whole = refl;
      all = λ nothing. absurd (some nothing);
      number = none_ends w.trail s.n (s.n + 1) s.step s.here.ends none;
    } in
    shown_by w q rest s mark first (subst (λ ns. AreAsked [] (numbered w.trail ns)) (sym more_none) tt)

-- the entry is by the rules, or was kept
abbrev HasEntryAt : {R : Type 0} (w : Walk R) (q : Question) (rest : List Question) → Stand w q rest → Type 0
HasEntryAt w q rest s = HasEntry (context_at w q rest s) (in_section Answer s.set) (entry_at w q rest s)

last_by : {R : Type 0} (w : Walk R) (q : Question) (s : Stand w q []) → HasEntryAt w q [] s
    → (s.set.rtype == type_dnskey) ≡ true → is_anchored_set w.judge s.set ≡ true → IsShown w q [] s.n s.step s.more
last_by w q s (ByRules by_rules) keys anchored = shown_last w q s by_rules keys anchored
last_by w q s (Served asked mark some) keys anchored = shown_served w q [] s asked mark some

next_by : {R : Type 0} (w : Walk R) (q next : Question) (rest : List Question) (s : Stand w q (next ∷ rest)) (above : RrSet)
    → straight_set w.judge w.tells next ≡ Some above → HasEntryAt w q (next ∷ rest) s
    → (if s.set.rtype == type_dnskey then not (is_anchored_set w.judge s.set) && is_proved_by_ds w.judge s.set next above
    else list_any (is_proved_by_keys w.judge s.set next above) s.set.signatures) ≡ true
    → ShowsNext w next rest → IsShown w q (next ∷ rest) s.n s.step s.more
next_by w q next rest s above found (ByRules by_rules) proved later =
    shown_next w q next rest s above (s.set.rtype == type_dnskey) found by_rules refl proved later
next_by w q next rest s above found (Served asked mark some) proved later = shown_served w q (next ∷ rest) s asked mark some

abbrev stand : {R : Type 0} (w : Walk R) (q : Question) (rest : List Question) (r : R) (n : ℕ) (step : AskedValue)
    (met more : List ℕ) (set : RrSet)
    → IsAt w q rest r n step met more → straight_set w.judge w.tells q ≡ Some set → Stand w q rest
stand w q rest r n step met more set at is = record {
  r = r;
  n = n;
  step = step;
  met = met;
  more = more;
  set = set;
  at = at;
  straight = is;
  here = here w q rest r n step met more set at is;
}

pub shown : {R : Type 0} (w : Walk R) (q : Question) (rest : List Question) (r : R) (n : ℕ) (step : AskedValue) (met more : List ℕ)
    → leads_to_anchor w.judge w.tells q rest ≡ true → IsAt w q rest r n step met more → IsShown w q rest n step more
unfolding leads_to_anchor
shown w q [] r n step met more leads at =
    let set = passing (λ s. (s.rtype == type_dnskey) && is_anchored_set w.judge s) (straight_set w.judge w.tells q) leads in
    let parts = and_parts (set.value.rtype == type_dnskey) (is_anchored_set w.judge set.value) set.passes in
    let s = stand w q [] r n step met more set.value at set.found in
    last_by w q s (rules w q r n step met more set.value s.here) parts.0 parts.1
shown w q (next ∷ rest) r n step met more leads at =
    let test = λ (s : RrSet). option_map_or (is_proved_by w.judge s next) (straight_set w.judge w.tells next) false in
    let parts = and_parts (option_map_or test (straight_set w.judge w.tells q) false) (leads_to_anchor w.judge w.tells next rest) leads in
    let set = passing test (straight_set w.judge w.tells q) parts.0 in
    let above = passing (is_proved_by w.judge set.value next) (straight_set w.judge w.tells next) set.passes in
    let s = stand w q (next ∷ rest) r n step met more set.value at set.found in
    next_by w q next rest s above.value above.found (rules w q r n step met more set.value s.here) above.passes
    (λ r2 n2 step2 met2 more2 at2. shown w next rest r2 n2 step2 met2 more2 parts.1 at2)

-- ---- the law

-- a query of a type that stands by itself
record IsByItself (q : Question) : Type 0 where
  plain : needs_no_denial q.rtype ≡ true
  other : is_other q ≡ false

by_itself : (q : Question) → is_plain_query q ≡ true → IsByItself q
by_itself q h =
    let last = (q.rtype == type_opt) || (nat_le 128 q.rtype && nat_le q.rtype 255) in
    let refused = (q.rtype == type_rrsig) || ((q.rtype == type_nsec) || ((q.rtype == type_nsec3) || last)) in
    let none = not-true refused ((and_parts (q.class == class_in) (not refused) h).1) in
    let one = or_parts (q.rtype == type_rrsig) ((q.rtype == type_nsec) || ((q.rtype == type_nsec3) || last)) none in
    let two = or_parts (q.rtype == type_nsec) ((q.rtype == type_nsec3) || last) one.1 in
    let three = or_parts (q.rtype == type_nsec3) last two.1 in
    record {
      plain = not_from_false ((q.rtype == type_nsec) || (q.rtype == type_nsec3))
          (or_from (q.rtype == type_nsec) (q.rtype == type_nsec3) two.0 three.0);
      other = one.0;
    }

same_top : (trail : List AskedValue) (a b : AskedValue) → top_step trail ≡ Some a → top_step trail ≡ Some b → a ≡ b
same_top trail a b one two = same_Some a b (sym one ∙ two)

records_by : {R : Type 0} (w : Walk R) (q : Question) (rest : List Question) (n : ℕ) (step : AskedValue) (more : List ℕ)
    → is_other q ≡ false
    → (is : IsShown w q rest n step more) → (now : ℕ) → shows_secure q (marked_section now (judged_sets step) Answer is.told.answers) ≡ true
records_by w q rest n step more other is now =
    ap (λ sets. shows_secure q (marked_section now sets Answer is.told.answers)) is.sets
    ∙ secure_records w.judge q is.told is.set is.judged now other is.one is.secure

-- a derivation whose last step asks a query, and whose steps heard a session that is valid for it, proves it
pub valid_session_is_proved : {R : Type 0} (up : Upstream R) (r : R) (j : Judge) (limits : Limits)
    (cached : List EntryValue) (q : Question) (trail : List AskedValue) (top : AskedValue)
    → derivation j limits cached trail ≡ true → are_secure cached ≡ true → top_step trail ≡ Some top
    → question_eq q top.query ≡ true → HeardAlong up r (in_send_order trail)
    → (valid : IsValidSession j (up.tells r) limits.depth q) → ProvesQuery j cached (up.tells r) q valid.queries trail
valid_session_is_proved {R = R} up r j limits cached q trail top derived secure last same heard valid =
    let g = derivation_parts j limits cached trail derived in
    let top_is = same_top trail g.top.step top g.top.found last in
    let depth_is : top.depth ≡ 0 = ap (λ s. s.depth) (sym top_is) ∙ g.top.top in
    let within = slice_get_within trail (length trail - 1) top last in
    let few = valid.few in
    let least = min-le_right limits.depth 255 in
    let types = by_itself q valid.plain in
    let w : Walk R = record {
      up = up;
      judge = j;
      limits = effective limits;
      cached = cached;
      trail = trail;
      order = g.sent.order;
      tells = up.tells r;
      hold = g.hold;
      secure = secure;
    } in
    let sent : in_send_order trail ≡ numbered trail g.sent.order = ap (steps_at trail) g.sent.found in
    let at : IsAt w q valid.queries r (length trail - 1) top [] g.sent.order = record {
      plain = types.plain;
      other = types.other;
      found = last;
      judged = ap (λ s. s.judged) (sym top_is) ∙ g.top.judged;
      same = same;
      kept = ap (λ d. is_judged_at d q.rtype) depth_is;
      deep = omega arith;
      few = omega arith;
      above = length trail;
      ordered = g.sent.found;
      over = length trail;
      ended = g.ends ∙ ap Some (omega arith);
      whole = refl;
      heard = subst (HeardAlong up r) sent heard;
      agree = λ later low. refl;
    } in
    let is = shown w q valid.queries r (length trail - 1) top [] g.sent.order valid.leads at in
    record {
      top = top;
      last = last;
      told = is.told;
      heard = is.heard_it;
      set = is.set;
      straight = is.straight;
      judged = is.judged;
      sets = is.sets;
      section = is.secure.section;
      is = is.secure.is;
      secure = is.secure.mark;
      ending = is.ending;
      records = records_by w q valid.queries (length trail - 1) top g.sent.order types.other is;
      front = is.first.front;
      unused = is.first.unused;
      whole = is.first.whole;
      all = is.first.all;
      asked = subst (AreAsked (q ∷ is.first.front)) (sym sent) is.asked;
    }

-- ---- the reply to the query

-- it tells records of the query's class
pub record HasReply (tells : Question → Option Told) (q : Question) : Type 0 where
  pub told : Told
  pub heard : tells q ≡ Some told
  pub own : foreign_record q told ≡ None

record FirstSet (o : Option RrSet) : Type 0 where
  set : RrSet
  found : o ≡ Some set

first_set : (j : Judge) (tells : Question → Option Told) (q : Question) (rest : List Question) → leads_to_anchor j tells q rest ≡ true
    → FirstSet (straight_set j tells q)
unfolding leads_to_anchor
first_set j tells q [] leads =
    let set = passing (λ s. (s.rtype == type_dnskey) && is_anchored_set j s) (straight_set j tells q) leads in
    record { set = set.value; found = set.found }
first_set j tells q (next ∷ rest) leads =
    let test = λ (s : RrSet). option_map_or (is_proved_by j s next) (straight_set j tells next) false in
    let parts = and_parts (option_map_or test (straight_set j tells q) false) (leads_to_anchor j tells next rest) leads in
    let set = passing test (straight_set j tells q) parts.0 in
    record { set = set.value; found = set.found }

-- the reply of a valid session
pub valid_reply : (j : Judge) (tells : Question → Option Told) (depth : ℕ) (q : Question) → IsValidSession j tells depth q
    → HasReply tells q
valid_reply j tells depth q valid =
    let first = first_set j tells q valid.queries valid.leads in
    let reply = answered j tells q first.set ((by_itself q valid.plain).other) first.found in
    record { told = reply.told; heard = reply.heard; own = none_foreign j q q reply.told first.set reply.is (question_refl q) }
