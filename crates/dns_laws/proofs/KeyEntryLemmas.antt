-- The entry of a DNSKEY set with one signature or none: by an anchor it asks nothing, and else it asks for the DS set of its owner.
use Rattle.std.proofs.Common.{◌≡◌, ◌⊎◌, inl, inr, ℕ, ◌+◌, Bool, true, false, not, ◌==◌, List, [], ◌∷◌, take, Option, None, Some, slice_get, refl, sym, ap, ◌∙◌, if◌then◌else◌}
use Rattle.std.specs.Prelude.{◌&&◌}
use Rattle.std.specs.Option.{option_map, option_map_or}
use Rattle.std.specs.List.{filter, cons_option, list_any, list_all, AllByRecursion}
use Rattle.std.proofs.Math.Logic.{⊎_elim}
use Rattle.std.proofs.lemmas.Bool.{and_parts, and_from, or_parts, or_cases, and_right, not-true}
use Rattle.dns_model.specs.declared.proof.Proof.TheVariants.{Secure, Bogus}
use Rattle.dns_model.specs.declared.section.Section.TheVariants.{Answer}
use Rattle.dns_model.specs.declared.trail.AskRef.{AskRef}
use Rattle.dns_model.specs.Names.{Labels, name_eq}
use Rattle.dns_model.specs.Types.{type_ds, type_dnskey}
use Rattle.dns_model.specs.Records.{Rr, RrSet, Question, question_eq}
use Rattle.dns_model.specs.Chains.{Judge}
use Rattle.dns_model.specs.SoundAnswers.{in_section, section_eq}
use Rattle.dns_model.specs.Trails.{JudgedSetValue}
use Rattle.dns_model.proofs.SetLemmas.{name_trans, number_refl}
use Rattle.dns_model.proofs.TestLemmas.{if_some}
use Rattle.dns_model.proofs.EachLemmas.{filter_none, find_none, none_passes}
use Rattle.dns_model.proofs.QuestionLemmas.{same_parts}
use Rattle.dns_model.proofs.Lists.{empty_is}
use Rattle.dns_rules.specs.Validity.{is_good_by}
use Rattle.dns_rules.specs.MarkedSets.{MarkedSet}
use Rattle.dns_rules.specs.Marks.{judged_by, most_signatures}
use Rattle.dns_rules.specs.ProofErrors.{DnskeyNotFound, DsRecordShouldExist, DsRecordsButNoDnskey, UnknownKeyAlgorithm}
use Rattle.dns_rules.specs.Delegations.{ZoneVerdict, Signed, Insecure, Bogus as Unshown, ds_question, is_supported_ds, is_readable_ds, is_ds_set_of, verdict_by_ds, verdict_without_ds, zone_verdict}
use Rattle.dns_rules.specs.KeySets.{is_anchored_key, is_matched_key, is_trusted_key, SignedKeys, signer_among, first_signed, signed_by, is_root, KeysOutcome, SignedByAnchored, WhollyAnchored, SignedByMatched, WhollyTrusted, Refused, outcome_by_ds, outcome_by_verdict, keys_outcome, is_needing_ds, needs_ds, outcome_mark, judged_keys}
use Rattle.dns_rules.specs.Unsigned.{is_empty, needs_zone}
use Rattle.dns_rules.specs.Derivation.{StepContext, finished_answer, is_ask, verdicts_by, zone_asked, proof_eq, has_mark_of, keys_hold, unsigned_holds, is_by_rules}
use Rattle.dns_rules.specs.DerivationParts.{place_eq}
use Rattle.dns_rules.proofs.DsLemmas.{filter-filter}
use Rattle.dns_rules.proofs.ExtendLemmas.{proof_same}
use Rattle.dns_laws.specs.Valid.{is_signed_by, is_anchored_set, is_proved_by_ds}
use Rattle.dns_laws.proofs.TestLemmas.{passing, any_found, none_any, found_alone}
use Rattle.dns_laws.proofs.SignedEntryLemmas.{IsSecureSet}

-- ---- who signed

-- at most one signature
abbrev pub IsOneOrNone : RrSet → Type 0
IsOneOrNone set = ((r : Rr) × (set.signatures ≡ r ∷ [])) ⊎ (set.signatures ≡ [])

pub record HasSigned (may_sign : Rr → Bool) (j : Judge) (set : RrSet) : Type 0 where
  pub signed : SignedKeys
  pub found : signed_by may_sign j set ≡ Some signed

-- by the first signature and a key
abbrev by_first : Rr → Rr → SignedKeys
by_first r key = record { place = 0; signature = r; key = key }

by_one : (may_sign : Rr → Bool) (j : Judge) (set : RrSet) (r key : Rr) → signer_among may_sign j set r ≡ Some key
    → first_signed may_sign j set (r ∷ []) ≡ Some (record { place = 0; signature = r; key = key })
unfolding first_signed
by_one may_sign j set r key is = ap (λ o. slice_get (cons_option (option_map (by_first r) o) []) 0) is

by_none : (may_sign : Rr → Bool) (j : Judge) (set : RrSet) (r : Rr) → signer_among may_sign j set r ≡ None
    → first_signed may_sign j set (r ∷ []) ≡ None
unfolding first_signed
by_none may_sign j set r is = ap (λ o. slice_get (cons_option (option_map (by_first r) o) []) 0) is

of_none : (may_sign : Rr → Bool) (j : Judge) (set : RrSet) → first_signed may_sign j set [] ≡ None
unfolding first_signed
of_none may_sign j set = refl

-- a key that may sign has signed
pub has_signed : (may_sign : Rr → Bool) (j : Judge) (set : RrSet) → IsOneOrNone set → is_signed_by may_sign j set ≡ true
    → HasSigned may_sign j set
has_signed may_sign j set (inl one) h =
    let r = one.0 in
    let test = λ (key : Rr). may_sign key && is_good_by j set r key in
    let any = λ (s : Rr). list_any (λ key. may_sign key && is_good_by j set s key) set.records in
    let good : any r ≡ true = ⊎_elim (λ (here : any r ≡ true). here) (λ (later : false ≡ true). cc)
    (or_cases (any r) false (ap (list_any any) (sym one.1) ∙ h)) in
    let key = any_found test set.records good in
    record {
      signed = record { place = 0; signature = r; key = key.value };
      found = ap (λ rs. first_signed may_sign j set (take most_signatures rs)) one.1 ∙ by_one may_sign j set r key.value key.found;
    }
has_signed may_sign j set (inr none) h =
    cc (ap (list_any (λ s. list_any (λ key. may_sign key && is_good_by j set s key) set.records)) (sym none) ∙ h)

-- and none has
pub none_signed : (may_sign : Rr → Bool) (j : Judge) (set : RrSet) → IsOneOrNone set → is_signed_by may_sign j set ≡ false
    → signed_by may_sign j set ≡ None
none_signed may_sign j set (inl one) h =
    let r = one.0 in
    let test = λ (key : Rr). may_sign key && is_good_by j set r key in
    let any = λ (s : Rr). list_any (λ key. may_sign key && is_good_by j set s key) set.records in
    let bad = (or_parts (any r) false (ap (list_any any) (sym one.1) ∙ h)).0 in
    ap (λ rs. first_signed may_sign j set (take most_signatures rs)) one.1 ∙ by_none may_sign j set r (find_none test set.records bad)
none_signed may_sign j set (inr none) h = ap (λ rs. first_signed may_sign j set (take most_signatures rs)) none ∙ of_none may_sign j set

-- ---- by an anchor

-- the outcome is Secure, whatever DS records there are
record IsSettled (outcome : KeysOutcome) : Type 0 where
  settled : is_needing_ds outcome ≡ false
  mark : (outcome_mark outcome).mark ≡ Secure

settled_by : (o : Option SignedKeys) (all : Bool) (rest : KeysOutcome) → (o ≡ None → all ≡ true)
    → IsSettled (option_map_or SignedByAnchored o (if all then WhollyAnchored else rest))
settled_by (Some signed) all rest h = record { settled = refl; mark = refl }
settled_by None true rest h = record { settled = refl; mark = refl }
settled_by None false rest h = cc (h refl)

anchored_outcome : (j : Judge) (set : RrSet) → IsOneOrNone set → is_anchored_set j set ≡ true → IsSettled (keys_outcome j set None)
unfolding keys_outcome
anchored_outcome j set one h =
    settled_by (signed_by (is_anchored_key j set) j set) (list_all (is_anchored_key j set) set.records)
    (if is_root set.owner then Refused Bogus (DnskeyNotFound set.owner) else outcome_by_verdict j set None)
    (λ none. ⊎_elim (λ (all : list_all (is_anchored_key j set) set.records ≡ true). all)
    (λ signed. let has = has_signed (is_anchored_key j set) j set one signed in cc (has.found, none))
    (or_cases (list_all (is_anchored_key j set) set.records) (is_signed_by (is_anchored_key j set) j set) h))

by_keys_rule : (g : StepContext) (set : RrSet) (entry : JudgedSetValue) → (set.rtype == type_dnskey) ≡ true
    → is_by_rules g (in_section Answer set) entry ≡ true → keys_hold g (in_section Answer set) entry ≡ true
by_keys_rule g set entry is h =
    let placed = in_section Answer set in
    ap (λ b.
    if b then keys_hold g placed entry
    else if needs_zone set then unsigned_holds g placed entry
    else option_map_or (λ verdicts. has_mark_of (judged_by placed verdicts) entry)
    (verdicts_by g set (take most_signatures set.signatures) entry.asked) false)
    (sym is) ∙ h

-- a key set that needs no DS set asks nothing, and is Secure
pub record IsAnchoredEntry (entry : JudgedSetValue) : Type 0 where
  pub none : entry.asked ≡ []
  pub mark : entry.mark ≡ Secure

pub anchored_entry : (g : StepContext) (set : RrSet) (entry : JudgedSetValue) → IsOneOrNone set → (set.rtype == type_dnskey) ≡ true
    → is_anchored_set g.judge set ≡ true → is_by_rules g (in_section Answer set) entry ≡ true → IsAnchoredEntry entry
unfolding judged_keys
anchored_entry g set entry one is anchored h =
    let placed = in_section Answer set in
    let outcome = anchored_outcome g.judge set one anchored in
    let judged = judged_keys g.judge placed None in
    let by : (is_empty entry.asked && has_mark_of judged entry) ≡ true =
    ap (λ b.
    if b then option_map_or (λ zone. has_mark_of (judged_keys g.judge placed (Some zone)) entry)
    (zone_asked g set.class set.owner entry.asked) false
    else is_empty entry.asked && has_mark_of judged entry)
    (sym outcome.settled) ∙ by_keys_rule g set entry is h in
    let parts = and_parts (is_empty entry.asked) (has_mark_of judged entry) by in
    let marked = (and_parts (proof_eq judged.mark entry.mark) (place_eq judged.sig entry.sig) parts.1).0 in
    record { none = empty_is entry.asked parts.0; mark = sym (proof_same judged.mark entry.mark marked) ∙ outcome.mark }

-- ---- by the DS set of the owner

-- neither an anchor nor the root settles it
unsettled : (j : Judge) (set : RrSet) (zone : Option ZoneVerdict) → IsOneOrNone set → is_anchored_set j set ≡ false
    → is_root set.owner ≡ false
    → keys_outcome j set zone ≡ outcome_by_verdict j set zone
unfolding keys_outcome
unsettled j set zone one h root =
    let parts = or_parts (list_all (is_anchored_key j set) set.records) (is_signed_by (is_anchored_key j set) j set) h in
    let rest = outcome_by_verdict j set zone in
    ap (λ o.
    option_map_or SignedByAnchored o
    (if list_all (is_anchored_key j set) set.records then WhollyAnchored else if is_root set.owner
    then Refused Bogus (DnskeyNotFound set.owner) else rest))
    (none_signed (is_anchored_key j set) j set one parts.1)
    ∙ ap (λ b. if b then WhollyAnchored else if is_root set.owner then Refused Bogus (DnskeyNotFound set.owner) else rest) parts.0
    ∙ ap (λ b. if b then Refused Bogus (DnskeyNotFound set.owner) else rest) root

-- one ask for the DS set stands in the entry, and its mark is by the DS verdict
pub record IsByDs (g : StepContext) (set : RrSet) (entry : JudgedSetValue) : Type 0 where
  pub ask : AskRef
  pub alone : entry.asked ≡ ask ∷ []
  pub asks : is_ask g.limits.depth g.earlier (g.depth + 1) (ds_question set.class set.owner) ask ≡ true
  pub marked : has_mark_of (judged_keys g.judge (in_section Answer set)
      (Some (zone_verdict g.judge.answers set.class set.owner (finished_answer g.earlier ask)))) entry ≡ true

by_zone_asked : (g : StepContext) (set : RrSet) (entry : JudgedSetValue) (asks : List AskRef) (zone : ZoneVerdict) → entry.asked ≡ asks
    → zone_asked g set.class set.owner asks ≡ Some zone
    → has_mark_of (judged_keys g.judge (in_section Answer set) (Some zone)) entry ≡ true → IsByDs g set entry
by_zone_asked g set entry [] zone is h marked = cc
by_zone_asked g set entry (ask ∷ asks) zone is h marked =
    let asked = is_ask g.limits.depth g.earlier (g.depth + 1) (ds_question set.class set.owner) ask in
    let verdict = zone_verdict g.judge.answers set.class set.owner (finished_answer g.earlier ask) in
    let parts = if_some (is_empty asks && asked) (Some verdict) zone h in
    let tests = and_parts (is_empty asks) asked parts.0 in
    record {
      ask = ask;
      alone = is ∙ ap (λ rest. ask ∷ rest) (empty_is asks tests.0);
      asks = tests.1;
      marked = ap (λ o. option_map_or (λ z. has_mark_of (judged_keys g.judge (in_section Answer set) (Some z)) entry) o false) parts.1
          ∙ marked;
    }

pub ds_asked : (g : StepContext) (set : RrSet) (entry : JudgedSetValue) → IsOneOrNone set → (set.rtype == type_dnskey) ≡ true
    → is_anchored_set g.judge set ≡ false → is_root set.owner ≡ false → is_by_rules g (in_section Answer set) entry ≡ true
    → IsByDs g set entry
ds_asked g set entry one is anchored root h =
    let placed = in_section Answer set in
    let asked = zone_asked g set.class set.owner entry.asked in
    let needs : needs_ds g.judge set ≡ true = ap is_needing_ds (unsettled g.judge set None one anchored root) in
    let by : option_map_or (λ zone. has_mark_of (judged_keys g.judge placed (Some zone)) entry) asked false ≡ true =
    ap (λ b.
    if b then option_map_or (λ zone. has_mark_of (judged_keys g.judge placed (Some zone)) entry) asked false
    else is_empty entry.asked && has_mark_of (judged_keys g.judge placed None) entry)
    (sym needs) ∙ by_keys_rule g set entry is h in
    let some = passing (λ zone. has_mark_of (judged_keys g.judge placed (Some zone)) entry) asked by in
    by_zone_asked g set entry entry.asked some.value refl some.found some.passes

-- ---- the DS verdict

none_matched : (j : Judge) (set : RrSet) (key : Rr) → is_matched_key j set [] key ≡ false
none_matched j set key = and_right (name_eq set.owner key.owner) false refl

none_signs : (j : Judge) (set : RrSet) → is_signed_by (is_matched_key j set []) j set ≡ false
none_signs j set = none_any any set.signatures (each set.signatures)
  where
    any : Rr → Bool
    any r = list_any (λ key. is_matched_key j set [] key && is_good_by j set r key) set.records

    keys : (r : Rr) (ks : List Rr) → AllByRecursion (λ key. (is_matched_key j set [] key && is_good_by j set r key) ≡ false) ks
    keys r [] = tt
    keys r (key ∷ ks) = (ap (λ b. b && is_good_by j set r key) (none_matched j set key), keys r ks)

    each : (rs : List Rr) → AllByRecursion (λ r. any r ≡ false) rs
    each [] = tt
    each (r ∷ rs) = (none_any (λ key. is_matched_key j set [] key && is_good_by j set r key) set.records (keys r set.records), each rs)

-- a DS that matches a key is supported
some_supported : (j : Judge) (set : RrSet) (records : List Rr) (b : Bool) → list_any (is_supported_ds j.answers) records ≡ b
    → is_signed_by (is_matched_key j set (filter (is_supported_ds j.answers) records)) j set ≡ true → b ≡ true
some_supported j set records true is h = refl
some_supported j set records false is h =
    let none = filter_none (is_supported_ds j.answers) records (none_passes (is_supported_ds j.answers) records is) in
    cc (sym (none_signs j set) ∙ ap (λ ds. is_signed_by (is_matched_key j set ds) j set) (sym none) ∙ h)

is_ds_set : (class : ℕ) (owner : Labels) (next : Question) (ds : RrSet) (judged : MarkedSet)
    → question_eq (ds_question class owner) next ≡ true
    → name_eq next.owner ds.owner ≡ true → ds.rtype ≡ next.rtype → ds.class ≡ next.class → IsSecureSet ds judged
    → is_ds_set_of class owner judged ≡ true
is_ds_set class owner next ds judged is name rtype in_class secure =
    let same = same_parts (ds_question class owner) next is in
    and_from (section_eq Answer judged.section) (name_eq owner judged.set.owner
    && ((judged.set.rtype == type_ds) && (class == judged.set.class)))
    (ap (section_eq Answer) secure.section)
    (and_from (name_eq owner judged.set.owner) ((judged.set.rtype == type_ds) && (class == judged.set.class))
    (ap (λ s. name_eq owner s.owner) secure.is ∙ name_trans owner next.owner ds.owner same.owner name)
    (and_from (judged.set.rtype == type_ds) (class == judged.set.class)
    (ap (λ s. s.rtype == type_ds) secure.is ∙ ap (λ t. t == type_ds) (rtype ∙ sym same.rtype))
    (ap (λ s. class == s.class) secure.is ∙ ap (λ c. class == c) (in_class ∙ sym same.class) ∙ number_refl class)))

zone_signed : (j : Judge) (set : RrSet) (next : Question) (ds : RrSet) (judged : MarkedSet)
    → question_eq (ds_question set.class set.owner) next ≡ true
    → name_eq next.owner ds.owner ≡ true → ds.rtype ≡ next.rtype → ds.class ≡ next.class → IsSecureSet ds judged
    → list_any (is_supported_ds j.answers) ds.records ≡ true
    → zone_verdict j.answers set.class set.owner (Some (judged ∷ [])) ≡ Signed (filter (is_supported_ds j.answers) ds.records)
unfolding zone_verdict
zone_signed j set next ds judged is name rtype in_class secure supported =
    let test = is_ds_set_of set.class set.owner in
    let by = λ (s : MarkedSet). verdict_by_ds j.answers set.owner s.mark s.set.records in
    ap (λ o. option_map_or by o (verdict_without_ds set.owner (judged ∷ [])))
    (found_alone test judged (is_ds_set set.class set.owner next ds judged is name rtype in_class secure))
    ∙ ap (λ m. verdict_by_ds j.answers set.owner m judged.set.records) secure.mark
    ∙ ap (λ s. verdict_by_ds j.answers set.owner Secure s.records) secure.is
    ∙ ap (λ b.
    if b then Signed (filter (is_supported_ds j.answers) ds.records)
    else if list_any is_readable_ds ds.records then Insecure UnknownKeyAlgorithm
    else Unshown (DsRecordShouldExist set.owner)) supported

-- ---- the mark

-- what makes a key set Secure by a DS set
pub record IsDsProof (j : Judge) (set : RrSet) (next : Question) (ds : RrSet) : Type 0 where
  pub root : is_root set.owner ≡ false
  pub next_is : question_eq (ds_question set.class set.owner) next ≡ true
  pub signed : is_signed_by (is_matched_key j set (filter (is_supported_ds j.answers) ds.records)) j set ≡ true

pub ds_proof : (j : Judge) (set : RrSet) (next : Question) (ds : RrSet) → is_proved_by_ds j set next ds ≡ true → IsDsProof j set next ds
ds_proof j set next ds h =
    let signed = is_signed_by (is_matched_key j set (filter (is_supported_ds j.answers) ds.records)) j set in
    let one = and_parts (not (is_root set.owner)) (question_eq (ds_question set.class set.owner) next && signed) h in
    let two = and_parts (question_eq (ds_question set.class set.owner) next) signed one.1 in
    record { root = not-true (is_root set.owner) one.0; next_is = two.0; signed = two.1 }

-- the entry whose ask found this DS set is Secure
pub ds_mark : (g : StepContext) (next : Question) (set ds : RrSet) (entry : JudgedSetValue) (judged : MarkedSet) → IsOneOrNone set
    → (by : IsByDs g set entry) → is_anchored_set g.judge set ≡ false → IsDsProof g.judge set next ds
    → name_eq next.owner ds.owner ≡ true → ds.rtype ≡ next.rtype → ds.class ≡ next.class
    → finished_answer g.earlier by.ask ≡ Some (judged ∷ []) → IsSecureSet ds judged → entry.mark ≡ Secure
unfolding judged_keys
ds_mark g next set ds entry judged one by anchored proof name rtype in_class answer secure =
    let j = g.judge in
    let supported = is_supported_ds j.answers in
    let records = filter supported ds.records in
    let matched = is_matched_key j set records in
    let any = some_supported j set ds.records (list_any supported ds.records) refl proof.signed in
    let zone = ap (zone_verdict j.answers set.class set.owner) answer
    ∙ zone_signed j set next ds judged proof.next_is name rtype in_class secure any in
    let has = has_signed matched j set one proof.signed in
    let outcome : keys_outcome j set (Some (Signed records)) ≡ SignedByMatched records has.signed =
    unsettled j set (Some (Signed records)) one anchored proof.root ∙ ap (outcome_by_ds j set) (filter-filter supported ds.records)
    ∙ ap (λ o.
    option_map_or (SignedByMatched records) o
    (if list_all (is_trusted_key j set records) set.records then WhollyTrusted records
    else Refused Bogus (DsRecordsButNoDnskey set.owner))) has.found in
    let judged_is = judged_keys j (in_section Answer set) (Some (Signed records)) in
    let marked : has_mark_of judged_is entry ≡ true =
    ap (λ z. has_mark_of (judged_keys j (in_section Answer set) (Some z)) entry) (sym zone) ∙ by.marked in
    let same = proof_same judged_is.mark entry.mark
    ((and_parts (proof_eq judged_is.mark entry.mark) (place_eq judged_is.sig entry.sig) marked).0) in
    sym same ∙ ap (λ o. (outcome_mark o).mark) outcome
