-- The DS verdict of a zone by the records of its class in a message.
use Rattle.std.proofs.Common.{◌≡◌, ℕ, Bool, true, false, not, ◌==◌, ◌&&◌, ◌||◌, cond, List, [], ◌∷◌, ◌++◌, Some, refl, sym, ap, ◌∙◌}
use Rattle.std.specs.Prelude.{if◌then◌else◌}
use Rattle.std.specs.Option.{option_map_or}
use Rattle.std.specs.List.{filter, find, list_all, list_any}
use Rattle.std.proofs.lemmas.List.Elements.{filter-append}
use Rattle.dns_model.specs.Names.{Labels}
use Rattle.dns_model.specs.Types.{type_ds, type_nsec}
use Rattle.dns_model.specs.Records.{Rr, MessageValue}
use Rattle.dns_model.specs.Keys.{VerifierAnswers}
use Rattle.dns_model.specs.SoundAnswers.{is_secure}
use Rattle.dns_handle.specs.Responses.{all_records}
use Rattle.dns_rules.specs.ProofErrors.{DsRecordShouldExist, DsResponseInsecure}
use Rattle.dns_rules.specs.Delegations.{Insecure, Bogus, is_supported_ds, is_readable_ds, shows_unsigned_cut, zone_verdict}
use Rattle.dns_marks.specs.ZoneVerdicts.{shown_by, of_class, in_class, is_record_of, are_secure_in_set, has_ds_set, by_supported, by_ds, authority_shows_no_ds, hashes_show_no_ds, is_insecure_record_above, without_ds, by_message}
use Rattle.dns_marks.proofs.OwnRecords.{is_own_record, by_own_ds, own_shows_no_ds, is_insecure_own, without_own_ds, by_own_message}
use Rattle.dns_marks.proofs.OwnLemmas.{filter_any}
use Rattle.dns_marks.proofs.ZoneLemmas.{zone_verdict_by}

-- ---- what is asked of those that are kept is asked of all, with the test by which they are kept

all_step : (b : Bool) (own test : Rr → Bool) (r : Rr) (rest : List Rr) (all : Bool) → list_all (λ s. not (own s) || test s) rest ≡ all
    → list_all (λ s. not (own s) || test s) (cond b (r ∷ rest) rest) ≡ ((not (b && own r) || test r) && all)
all_step true own test r rest all h = ap (λ b. (not (own r) || test r) && b) h
all_step false own test r rest all h = h

all_kept : (kept own test : Rr → Bool) (rs : List Rr)
    → list_all (λ r. not (own r) || test r) (filter kept rs) ≡ list_all (λ r. not (kept r && own r) || test r) rs
all_kept kept own test [] = refl
all_kept kept own test (r ∷ rs) =
    all_step (kept r) own test r (filter kept rs) (list_all (λ r. not (kept r && own r) || test r) rs) (all_kept kept own test rs)

any_step : (b : Bool) (own test : Rr → Bool) (r : Rr) (rest : List Rr) (any : Bool) → list_any (λ s. own s && test s) rest ≡ any
    → list_any (λ s. own s && test s) (cond b (r ∷ rest) rest) ≡ (((b && own r) && test r) || any)
any_step true own test r rest any h = ap (λ b. (own r && test r) || b) h
any_step false own test r rest any h = h

any_kept : (kept own test : Rr → Bool) (rs : List Rr)
    → list_any (λ r. own r && test r) (filter kept rs) ≡ list_any (λ r. (kept r && own r) && test r) rs
any_kept kept own test [] = refl
any_kept kept own test (r ∷ rs) =
    any_step (kept r) own test r (filter kept rs) (list_any (λ r. (kept r && own r) && test r) rs) (any_kept kept own test rs)

filter_step : (b : Bool) (own test : Rr → Bool) (r : Rr) (rest all : List Rr) → filter (λ s. own s && test s) rest ≡ all
    → filter (λ s. own s && test s) (cond b (r ∷ rest) rest) ≡ cond ((b && own r) && test r) (r ∷ all) all
filter_step true own test r rest all h = ap (λ rs. cond (own r && test r) (r ∷ rs) rs) h
filter_step false own test r rest all h = h

filter_kept : (kept own test : Rr → Bool) (rs : List Rr)
    → filter (λ r. own r && test r) (filter kept rs) ≡ filter (λ r. (kept r && own r) && test r) rs
filter_kept kept own test [] = refl
filter_kept kept own test (r ∷ rs) =
    filter_step (kept r) own test r (filter kept rs) (filter (λ r. (kept r && own r) && test r) rs) (filter_kept kept own test rs)

-- ---- the DS set

first_step : (b o : Bool) (class : ℕ) (own : Rr → Bool) (r : Rr) (rest : List Rr) (any : Bool) → (class == r.class) ≡ b → own r ≡ o
    → option_map_or (λ f. class == f.class) (find own rest) false ≡ any
    → option_map_or (λ f. class == f.class) (find own (cond b (r ∷ rest) rest)) false ≡ ((b && o) || any)
first_step true true class own r rest any here is h =
    ap (λ x. option_map_or (λ f. class == f.class) (cond x (Some r) (find own rest)) false) is ∙ here
first_step true false class own r rest any here is h =
    ap (λ x. option_map_or (λ f. class == f.class) (cond x (Some r) (find own rest)) false) is ∙ h
first_step false o class own r rest any here is h = h

-- the first of a class has it
first_kept : (class : ℕ) (own : Rr → Bool) (rs : List Rr)
    → option_map_or (λ f. class == f.class) (find own (of_class class rs)) false ≡ list_any (λ r. (class == r.class) && own r) rs
first_kept class own [] = refl
first_kept class own (r ∷ rs) =
    first_step (class == r.class) (own r) class own r (of_class class rs) (list_any (λ r. (class == r.class) && own r) rs)
    refl refl (first_kept class own rs)

ds_in_class : (verifier : VerifierAnswers) (class : ℕ) (name : Labels) (rs : List Rr)
    → by_own_ds verifier name (of_class class rs) ≡ by_ds verifier class name rs
ds_in_class verifier class name rs =
    let kept = λ (r : Rr). class == r.class in
    let own = is_own_record name type_ds in
    let some = filter (λ r. own r && is_supported_ds verifier r) (filter kept rs) in
    let readable = list_any (λ r. own r && is_readable_ds r) (filter kept rs) in
    ap (λ b. if b then by_supported name readable some else Bogus (DsRecordShouldExist name))
    (all_kept kept own (λ r. is_secure r.proof) rs)
    ∙ ap (λ b. if are_secure_in_set class name type_ds rs then by_supported name b some else Bogus (DsRecordShouldExist name))
    (any_kept kept own is_readable_ds rs)
    ∙ ap (λ ds. if are_secure_in_set class name type_ds rs
    then by_supported name (list_any (λ r. is_record_of class name type_ds r && is_readable_ds r) rs) ds
    else Bogus (DsRecordShouldExist name))
    (filter_kept kept own (is_supported_ds verifier) rs)

-- ---- without one

nsec_in_class : (class : ℕ) (name : Labels) (rs : List Rr) → own_shows_no_ds name (of_class class rs) ≡ authority_shows_no_ds class name rs
nsec_in_class class name rs =
    let kept = λ (r : Rr). class == r.class in
    let own = is_own_record name type_nsec in
    ap (λ b. b && list_any (λ r. own r && shows_unsigned_cut r) (filter kept rs)) (all_kept kept own (λ r. is_secure r.proof) rs)
    ∙ ap (λ b. are_secure_in_set class name type_nsec rs && b) (any_kept kept own shows_unsigned_cut rs)

insecure_in_class : (class : ℕ) (name : Labels) (m : MessageValue)
    → list_any (is_insecure_own name) (all_records (in_class class m)) ≡ list_any (is_insecure_record_above class name) (all_records m)
insecure_in_class class name m =
    let kept = λ (r : Rr). class == r.class in
    ap (λ rs. list_any (is_insecure_own name) (filter kept m.answers ++ rs)) (sym (filter-append kept m.authorities m.additionals))
    ∙ ap (list_any (is_insecure_own name)) (sym (filter-append kept m.answers (m.authorities ++ m.additionals)))
    ∙ filter_any kept (is_insecure_own name) (all_records m)

without_in_class : (class : ℕ) (name : Labels) (m : MessageValue) → without_own_ds name (in_class class m) ≡ without_ds class name m
without_in_class class name m =
    let hashed = hashes_show_no_ds class name m.authorities in
    let by = λ (b : Bool). if b then Insecure (DsResponseInsecure name) else Bogus (DsRecordShouldExist name) in
    ap (λ b. by (b || (hashed || list_any (is_insecure_own name) (all_records (in_class class m)))))
    (nsec_in_class class name m.authorities)
    ∙ ap (λ b. by (authority_shows_no_ds class name m.authorities || (hashed || b))) (insecure_in_class class name m)

-- ---- the verdict

message_in_class : (verifier : VerifierAnswers) (class : ℕ) (name : Labels) (m : MessageValue)
    → by_own_message verifier class name (in_class class m) ≡ by_message verifier class name m
message_in_class verifier class name m =
    ap (λ b. if b then by_own_ds verifier name (of_class class m.answers) else without_own_ds name (in_class class m))
    (first_kept class (is_own_record name type_ds) m.answers)
    ∙ ap (λ v. if has_ds_set class name m.answers then v else without_own_ds name (in_class class m))
    (ds_in_class verifier class name m.answers)
    ∙ ap (λ v. if has_ds_set class name m.answers then by_ds verifier class name m.answers else v) (without_in_class class name m)

-- the DS verdict of a zone by the records of its class
pub zone_verdict_in : (verifier : VerifierAnswers) (class : ℕ) (name : Labels) (m : MessageValue)
    → zone_verdict verifier class name (Some (shown_by (in_class class m))) ≡ by_message verifier class name m
zone_verdict_in verifier class name m = zone_verdict_by verifier class name (in_class class m) ∙ message_in_class verifier class name m
