-- The DS verdict of a zone by the records of a message.
use Rattle.std.proofs.Common.{◌≡◌, ℕ, Bool, true, false, ◌==◌, ◌&&◌, ◌||◌, cond, List, [], ◌∷◌, ◌++◌, map, Option, None, Some, append-nil, refl, sym, ap, ◌∙◌}
use Rattle.std.specs.Prelude.{if◌then◌else◌, is_some}
use Rattle.std.specs.Option.{option_map, option_map_or, option_or}
use Rattle.std.specs.List.{filter, filter_map, flat_map, find, list_any}
use Rattle.std.proofs.lemmas.List.Elements.{filter-append}
use Rattle.std.proofs.lemmas.Bool.{and_right}
use Rattle.std.proofs.lemmas.List.Folds.{find-append, list_any-append}
use Rattle.dns_model.specs.declared.proof.Proof.TheVariants as proof
use Rattle.dns_model.specs.declared.section.Section.TheVariants.{Answer, Authority}
use Rattle.dns_model.specs.Names.{Labels, name_eq}
use Rattle.dns_model.specs.Types.{type_ds, type_nsec}
use Rattle.dns_model.specs.Records.{Rr, MessageValue}
use Rattle.dns_model.specs.Sections.{same_set, set_of, sets_of}
use Rattle.dns_model.specs.Keys.{VerifierAnswers}
use Rattle.dns_model.specs.SoundAnswers.{is_secure}
use Rattle.dns_model.proofs.TestLemmas.{or_false}
use Rattle.dns_handle.specs.Responses.{all_records}
use Rattle.dns_rules.specs.MarkedSets.{MarkedSet}
use Rattle.dns_rules.specs.ProofErrors.{DsRecordShouldExist, DsResponseInsecure, UnknownKeyAlgorithm}
use Rattle.dns_rules.specs.Nsec3Verdict.{shows_insecure_delegation}
use Rattle.dns_rules.specs.Denying.{is_hash_denying, hash_denying, owned_nsec3}
use Rattle.dns_rules.specs.Delegations as zone
use Rattle.dns_rules.specs.Delegations.{ZoneVerdict, Signed, Insecure, Bogus, is_supported_ds, is_readable_ds, is_ds_set_of, shows_unsigned_cut, is_insecure, verdict_by_ds, verdict_without_ds, zone_verdict}
use Rattle.dns_marks.specs.ZoneVerdicts.{are_secure, marked_set, marked_sets, lone_record, shown_by, by_supported}
use Rattle.dns_marks.proofs.OwnRecords.{is_own_record, are_own_secure, has_own_ds, by_own_ds, own_shows_no_ds, is_insecure_own, without_own_ds, by_own_message}
use Rattle.dns_marks.proofs.OwnLemmas.{kept, find_set, own_records, filter_twice, filter_all, filter_any}

-- ---- the DS set

and_assoc : (a b c : Bool) → (a && (b && c)) ≡ ((a && b) && c)
and_assoc true b c = refl
and_assoc false b c = refl

find_ds_set : (class : ℕ) (name : Labels) (answers : List Rr)
    → find (is_ds_set_of class name) (marked_sets Answer answers)
    ≡ option_map (λ r. marked_set Answer (set_of answers r)) (kept (λ r. class == r.class) (find (is_own_record name type_ds) answers))
find_ds_set class name answers =
    find_set name type_ds refl Answer answers (is_ds_set_of class name) (λ r. class == r.class)
    (λ r. and_assoc (name_eq name r.owner) (r.rtype == type_ds) (class == r.class))

-- one that isn't Secure gives no DS
proved : (verifier : VerifierAnswers) (name : Labels) (rs : List Rr) (b : Bool)
    → verdict_by_ds verifier name (if b then proof.Secure else proof.Bogus) rs
    ≡ (if b then verdict_by_ds verifier name proof.Secure rs else Bogus (DsRecordShouldExist name))
proved verifier name rs true = refl
proved verifier name rs false = refl

some_step : (name : Labels) (b any readable : Bool) (r : Rr) (kept_ones : List Rr)
    → (if any then Signed kept_ones else if readable then Insecure UnknownKeyAlgorithm else Bogus (DsRecordShouldExist name))
    ≡ by_supported name readable kept_ones
    → (if b || any then Signed (cond b (r ∷ kept_ones) kept_ones) else if readable then Insecure UnknownKeyAlgorithm
    else Bogus (DsRecordShouldExist name))
    ≡ by_supported name readable (cond b (r ∷ kept_ones) kept_ones)
some_step name true any readable r kept_ones h = refl
some_step name false any readable r kept_ones h = h

supported_by : (verifier : VerifierAnswers) (name : Labels) (readable : Bool) (rs : List Rr)
    → (if list_any (is_supported_ds verifier) rs then Signed (filter (is_supported_ds verifier) rs)
    else if readable then Insecure UnknownKeyAlgorithm else Bogus (DsRecordShouldExist name))
    ≡ by_supported name readable (filter (is_supported_ds verifier) rs)
supported_by verifier name readable [] = refl
supported_by verifier name readable (r ∷ rs) =
    some_step name (is_supported_ds verifier r) (list_any (is_supported_ds verifier) rs) readable r (filter (is_supported_ds verifier) rs)
    (supported_by verifier name readable rs)

-- by the records of the zone's set
by_records : (verifier : VerifierAnswers) (name : Labels) (answers : List Rr)
    → verdict_by_ds verifier name (if are_secure (filter (is_own_record name type_ds) answers) then proof.Secure else proof.Bogus)
    (filter (is_own_record name type_ds) answers)
    ≡ by_own_ds verifier name answers
by_records verifier name answers =
    let own = is_own_record name type_ds in
    proved verifier name (filter own answers) (are_secure (filter own answers))
    ∙ ap (λ b. if b then verdict_by_ds verifier name proof.Secure (filter own answers) else Bogus (DsRecordShouldExist name))
    (filter_all own (λ s. is_secure s.proof) answers)
    ∙ ap (λ v. if are_own_secure name type_ds answers then v else Bogus (DsRecordShouldExist name))
    (supported_by verifier name (list_any is_readable_ds (filter own answers)) (filter own answers)
    ∙ ap (λ b. by_supported name b (filter (is_supported_ds verifier) (filter own answers))) (filter_any own is_readable_ds answers)
    ∙ ap (by_supported name (list_any (λ s. own s && is_readable_ds s) answers)) (filter_twice own (is_supported_ds verifier) answers))

class_step : (verifier : VerifierAnswers) (name : Labels) (answers : List Rr) (r : Rr) (b : Bool) (without : ZoneVerdict)
    → verdict_by_ds verifier name (if are_secure (filter (same_set r) answers) then proof.Secure
    else proof.Bogus) (filter (same_set r) answers)
    ≡ by_own_ds verifier name answers
    → option_map_or (λ found. verdict_by_ds verifier name found.mark found.set.records)
    (option_map (λ r. marked_set Answer (set_of answers r)) (if b then Some r else None)) without
    ≡ (if b then by_own_ds verifier name answers else without)
class_step verifier name answers r true without h = h
class_step verifier name answers r false without h = refl

-- by the first DS, if there is one
by_first : (verifier : VerifierAnswers) (class : ℕ) (name : Labels) (answers : List Rr) (without : ZoneVerdict) (first : Option Rr)
    → find (is_own_record name type_ds) answers ≡ first
    → option_map_or (λ found. verdict_by_ds verifier name found.mark found.set.records)
    (option_map (λ r. marked_set Answer (set_of answers r)) (kept (λ r. class == r.class) first)) without
    ≡ (if option_map_or (λ r. class == r.class) first false then by_own_ds verifier name answers else without)
unfolding kept
by_first verifier class name answers without None h = refl
by_first verifier class name answers without (Some r) h =
    class_step verifier name answers r (class == r.class) without
    (ap (λ rs. verdict_by_ds verifier name (if are_secure rs then proof.Secure else proof.Bogus) rs) (own_records name type_ds answers r h)
    ∙ by_records verifier name answers)

-- ---- the NSEC set

found_step : (b rest : Bool) (x : MarkedSet) (found : Option MarkedSet) → rest ≡ is_some found
    → (b || rest) ≡ is_some (cond b (Some x) found)
found_step true rest x found h = refl
found_step false rest x found h = h

any_found : (test : MarkedSet → Bool) (xs : List MarkedSet) → list_any test xs ≡ is_some (find test xs)
any_found test [] = refl
any_found test (x ∷ xs) = found_step (test x) (list_any test xs) x (find test xs) (any_found test xs)

parts_case : (secure named typed cut : Bool) → (secure && (named && (typed && cut))) ≡ ((named && typed) && (secure && cut))
parts_case true named typed cut = and_assoc named typed cut
parts_case false true true cut = refl
parts_case false true false cut = refl
parts_case false false typed cut = refl

secure_case : (b : Bool) → is_secure (if b then proof.Secure else proof.Bogus) ≡ b
secure_case true = refl
secure_case false = refl

-- what an NSEC set of a record shows
abbrev set_shows : List Rr → Rr → Bool
set_shows authorities r = are_secure (filter (same_set r) authorities) && list_any shows_unsigned_cut (filter (same_set r) authorities)

shows_case : (name : Labels) (authorities : List Rr) (r : Rr)
    → zone.shows_no_ds name (marked_set Authority (set_of authorities r)) ≡ (is_own_record name type_nsec r && set_shows authorities r)
shows_case name authorities r =
    ap (λ b. b && (name_eq name r.owner && ((r.rtype == type_nsec) && list_any shows_unsigned_cut (filter (same_set r) authorities))))
    (secure_case (are_secure (filter (same_set r) authorities)))
    ∙ parts_case (are_secure (filter (same_set r) authorities)) (name_eq name r.owner) (r.rtype == type_nsec)
    (list_any shows_unsigned_cut (filter (same_set r) authorities))

none_head : (own test : Rr → Bool) (r : Rr) (rs : List Rr) (b : Bool) → (find own rs ≡ None → list_any (λ s. own s && test s) rs ≡ false)
    → cond b (Some r) (find own rs) ≡ None → ((b && test r) || list_any (λ s. own s && test s) rs) ≡ false
none_head own test r rs true more h = cc
none_head own test r rs false more h = more h

any_none : (own test : Rr → Bool) (rs : List Rr) → find own rs ≡ None → list_any (λ r. own r && test r) rs ≡ false
any_none own test [] h = refl
any_none own test (r ∷ rs) h = none_head own test r rs (own r) (any_none own test rs) h

some_case : (b : Bool) (r : Rr) (f : Rr → MarkedSet) → is_some (option_map f (if b then Some r else None)) ≡ b
some_case true r f = refl
some_case false r f = refl

by_nsec : (name : Labels) (authorities : List Rr) (first : Option Rr) → find (is_own_record name type_nsec) authorities ≡ first
    → is_some (option_map (λ r. marked_set Authority (set_of authorities r)) (kept (set_shows authorities) first))
    ≡ own_shows_no_ds name authorities
unfolding kept
by_nsec name authorities None h =
    sym (ap (λ b. are_own_secure name type_nsec authorities && b) (any_none (is_own_record name type_nsec) shows_unsigned_cut authorities h)
    ∙ and_right (are_own_secure name type_nsec authorities) false refl)
by_nsec name authorities (Some r) h =
    let own = is_own_record name type_nsec in
    some_case (set_shows authorities r) r (λ r. marked_set Authority (set_of authorities r))
    ∙ ap (λ rs. are_secure rs && list_any shows_unsigned_cut rs) (own_records name type_nsec authorities r h)
    ∙ ap (λ b. b && list_any shows_unsigned_cut (filter own authorities)) (filter_all own (λ s. is_secure s.proof) authorities)
    ∙ ap (λ b. are_own_secure name type_nsec authorities && b) (filter_any own shows_unsigned_cut authorities)

any_nsec : (name : Labels) (authorities : List Rr)
    → list_any (zone.shows_no_ds name) (marked_sets Authority authorities) ≡ own_shows_no_ds name authorities
any_nsec name authorities =
    any_found (zone.shows_no_ds name) (marked_sets Authority authorities)
    ∙ ap is_some (find_set name type_nsec refl Authority authorities (zone.shows_no_ds name) (set_shows authorities)
    (shows_case name authorities))
    ∙ by_nsec name authorities (find (is_own_record name type_nsec) authorities) refl

-- ---- all that a message shows

no_find : {X : Type 0} (test : MarkedSet → Bool) (f : X → MarkedSet) → ((x : X) → test (f x) ≡ false) → (xs : List X)
    → find test (map f xs) ≡ None
no_find test f none [] = refl
no_find test f none (x ∷ xs) = ap (λ b. cond b (Some (f x)) (find test (map f xs))) (none x) ∙ no_find test f none xs

no_any : {X : Type 0} (test : MarkedSet → Bool) (f : X → MarkedSet) → ((x : X) → test (f x) ≡ false) → (xs : List X)
    → list_any test (map f xs) ≡ false
no_any test f none [] = refl
no_any test f none (x ∷ xs) = ap (λ b. b || list_any test (map f xs)) (none x) ∙ no_any test f none xs

any_map : {X : Type 0} (test : MarkedSet → Bool) (f : X → MarkedSet) (xs : List X)
    → list_any test (map f xs) ≡ list_any (λ x. test (f x)) xs
any_map test f [] = refl
any_map test f (x ∷ xs) = ap (λ b. test (f x) || b) (any_map test f xs)

or_none : (o : Option MarkedSet) → option_or o None ≡ o
or_none None = refl
or_none (Some x) = refl

-- the DS set is one of the answer section
shown_ds : (class : ℕ) (name : Labels) (m : MessageValue)
    → find (is_ds_set_of class name) (shown_by m) ≡ find (is_ds_set_of class name) (marked_sets Answer m.answers)
shown_ds class name m =
    let test = is_ds_set_of class name in
    find-append test (marked_sets Answer m.answers) (marked_sets Authority m.authorities ++ map lone_record (all_records m))
    ∙ ap (option_or (find test (marked_sets Answer m.answers)))
    (find-append test (marked_sets Authority m.authorities) (map lone_record (all_records m))
    ∙ ap (λ o. option_or o (find test (map lone_record (all_records m))))
    (no_find test (marked_set Authority) (λ set. refl) (sets_of m.authorities))
    ∙ no_find test lone_record (λ r. refl) (all_records m))
    ∙ or_none (find test (marked_sets Answer m.answers))

-- the NSEC set is one of the authority section
shown_nsec : (name : Labels) (m : MessageValue) → list_any (zone.shows_no_ds name) (shown_by m) ≡ own_shows_no_ds name m.authorities
shown_nsec name m =
    let test = zone.shows_no_ds name in
    list_any-append test (marked_sets Answer m.answers) (marked_sets Authority m.authorities ++ map lone_record (all_records m))
    ∙ ap (λ b. b || list_any test (marked_sets Authority m.authorities ++ map lone_record (all_records m)))
    (no_any test (marked_set Answer) (λ set. refl) (sets_of m.answers))
    ∙ list_any-append test (marked_sets Authority m.authorities) (map lone_record (all_records m))
    ∙ ap (λ b. list_any test (marked_sets Authority m.authorities) || b) (no_any test lone_record (λ r. refl) (all_records m))
    ∙ or_false (list_any test (marked_sets Authority m.authorities))
    ∙ any_nsec name m.authorities

set_case : (b above : Bool) → (is_insecure (if b then proof.Secure else proof.Bogus) && above) ≡ false
set_case true above = refl
set_case false above = refl

-- what is Insecure is a record
shown_insecure : (name : Labels) (m : MessageValue)
    → list_any (zone.is_insecure_above name) (shown_by m) ≡ list_any (is_insecure_own name) (all_records m)
shown_insecure name m =
    let test = zone.is_insecure_above name in
    list_any-append test (marked_sets Answer m.answers) (marked_sets Authority m.authorities ++ map lone_record (all_records m))
    ∙ ap (λ b. b || list_any test (marked_sets Authority m.authorities ++ map lone_record (all_records m)))
    (no_any test (marked_set Answer) (λ set. set_case (are_secure set.records) _) (sets_of m.answers))
    ∙ list_any-append test (marked_sets Authority m.authorities) (map lone_record (all_records m))
    ∙ ap (λ b. b || list_any test (map lone_record (all_records m)))
    (no_any test (marked_set Authority) (λ set. set_case (are_secure set.records) _) (sets_of m.authorities))
    ∙ any_map test lone_record (all_records m)

-- ---- what NSEC3 sets say

no_kept : {X : Type 0} (test : MarkedSet → Bool) (f : X → MarkedSet) → ((x : X) → test (f x) ≡ false) → (xs : List X)
    → filter test (map f xs) ≡ []
no_kept test f none [] = refl
no_kept test f none (x ∷ xs) = ap (λ b. cond b (f x ∷ filter test (map f xs)) (filter test (map f xs))) (none x) ∙ no_kept test f none xs

-- they are sets of the authority section
shown_hashes : (m : MessageValue) → hash_denying (shown_by m) ≡ hash_denying (marked_sets Authority m.authorities)
shown_hashes m =
    let test = is_hash_denying in
    let two = marked_sets Authority m.authorities in
    let three = map lone_record (all_records m) in
    filter-append test (marked_sets Answer m.answers) (two ++ three)
    ∙ ap (λ xs. xs ++ filter test (two ++ three)) (no_kept test (marked_set Answer) (λ set. refl) (sets_of m.answers))
    ∙ filter-append test two three
    ∙ ap (λ xs. filter test two ++ xs) (no_kept test lone_record (λ r. refl) (all_records m)) ∙ append-nil (filter test two)

-- ---- the verdict

shown_without : (name : Labels) (m : MessageValue) → verdict_without_ds name (shown_by m) ≡ without_own_ds name m
shown_without name m =
    let hashed = zone.shows_no_ds_by_hash name (shown_by m) in
    let above = list_any (zone.is_insecure_above name) (shown_by m) in
    let own_hashed = zone.shows_no_ds_by_hash name (marked_sets Authority m.authorities) in
    let by = λ (b : Bool). if b then Insecure (DsResponseInsecure name) else Bogus (DsRecordShouldExist name) in
    ap (λ b. by (b || (hashed || above))) (shown_nsec name m)
    ∙ ap (λ sets. by (own_shows_no_ds name m.authorities
    || (shows_insecure_delegation name (flat_map (λ judged. filter_map owned_nsec3 judged.set.records) sets) || above))) (shown_hashes m)
    ∙ ap (λ b. by (own_shows_no_ds name m.authorities || (own_hashed || b))) (shown_insecure name m)

-- the DS verdict of a zone by the records of a message
pub zone_verdict_by : (verifier : VerifierAnswers) (class : ℕ) (name : Labels) (m : MessageValue)
    → zone_verdict verifier class name (Some (shown_by m)) ≡ by_own_message verifier class name m
unfolding zone_verdict
zone_verdict_by verifier class name m =
    ap (λ found. option_map_or (λ s. verdict_by_ds verifier name s.mark s.set.records) found (verdict_without_ds name (shown_by m)))
    (shown_ds class name m ∙ find_ds_set class name m.answers)
    ∙ by_first verifier class name m.answers (verdict_without_ds name (shown_by m)) (find (is_own_record name type_ds) m.answers) refl
    ∙ ap (λ v. if has_own_ds class name m.answers then by_own_ds verifier name m.answers else v) (shown_without name m)
