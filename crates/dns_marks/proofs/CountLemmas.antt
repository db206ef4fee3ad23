-- How often the verifier is asked for one signature: by two keys of its tag at the most.
use Rattle.std.proofs.Common.{◌≡◌, ℕ, ◌+◌, ◌≤◌, Bool, true, false, not, ◌==◌, ◌&&◌, cond, List, [], ◌∷◌, ◌++◌, Option, None, Some, refl, sym, ap, ◌∙◌, arith}
use Rattle.std.specs.Prelude.{if◌then◌else◌, nat_lt, min}
use Rattle.std.specs.Option.{option_map_or}
use Rattle.std.specs.List.{filter, count_by}
use Rattle.std.proofs.lemmas.Bool.{and_right}
use Rattle.std.proofs.lemmas.Bool.Decides.{nat_tests}
use Rattle.dns_model.specs.Views.{RrsigValue, DnskeyValue, is_zone_key}
use Rattle.dns_model.specs.Serial.{timely}
use Rattle.dns_model.specs.Names.{Labels, name_eq}
use Rattle.dns_model.specs.Signing.{key_tag_of}
use Rattle.dns_model.specs.Keys.{VerifierAnswers, usable_key}
use Rattle.dns_model.specs.Records.{Rr, RrSet}
use Rattle.dns_model.specs.RecordViews.{rrsig_of, dnskey_of}
use Rattle.dns_model.specs.SoundAnswers.{is_secure}
use Rattle.dns_model.proofs.SetLemmas.{number_same, number_back}
use Rattle.dns_rules.specs.Validity.{ValidRrsig, ExpiredRrsig, WrongDnskey, WrongRrsig, validity, is_valid, is_of_set, is_by_key}
use Rattle.dns_rules.specs.Marks.{is_key_of_zone, same_tag, may_be_signed, counted_keys}
use Rattle.dns_rules.specs.MarkParts.{sig_validity}
use Rattle.dns_rules.proofs.FirstLemmas.{early_after, first_two-after}
use Rattle.dns_trust.proofs.Counts.{next_of, count_push}
use Rattle.dns_marks.specs.KeySignatures.{validity_at, is_put}
use Rattle.dns_marks.specs.SignatureKeys.{is_proving, calls_in_turn, calls_by_keys_read, calls_by_keys}
use Rattle.dns_marks.proofs.CallLemmas.{unput, put_no_key}
use Rattle.dns_marks.proofs.KeyLemmas.{turn_of, none_of}

-- ---- a key is put to the verifier only under the tag of the signature

abbrev has_tag : ℕ → Rr → Bool
has_tag tag r = tag == key_tag_of r.rdata

fit_case : (of_set timely_now named algorithm zone tag : Bool) → tag ≡ false
    → is_valid (if not of_set then WrongRrsig else if not timely_now then ExpiredRrsig else if named
    && (algorithm && (tag && zone)) then ValidRrsig else WrongDnskey) ≡ false
fit_case false timely_now named algorithm zone tag h = refl
fit_case true false named algorithm zone tag h = refl
fit_case true true false algorithm zone tag h = refl
fit_case true true true false zone tag h = refl
fit_case true true true true zone true h = cc
fit_case true true true true zone false h = refl

other_tag : (verifier : VerifierAnswers) (now : ℕ) (set : RrSet) (r key : Rr) (sig : RrsigValue) (text : Option DnskeyValue)
    → rrsig_of r ≡ Some sig
    → dnskey_of key ≡ text → has_tag sig.key_tag key ≡ false → is_put verifier now set r key ≡ false
unfolding validity
other_tag verifier now set r key sig None read is h = put_no_key verifier now set r key is
other_tag verifier now set r key sig (Some text) read is h =
    let invalid : is_valid (validity_at now set r key) ≡ false =
    ap (λ o. is_valid (sig_validity (λ s. timely s now) set r key o)) read
    ∙ ap (λ o. is_valid (if not (is_of_set set r sig) then WrongRrsig else if not (timely sig now) then ExpiredRrsig
    else option_map_or (λ t. if is_by_key sig key t then ValidRrsig else WrongDnskey) o WrongDnskey)) is
    ∙ fit_case (is_of_set set r sig) (timely sig now) (name_eq sig.signer key.owner) (text.algorithm == sig.algorithm) (is_zone_key text)
    (key_tag_of key.rdata == sig.key_tag) (number_back (key_tag_of key.rdata) sig.key_tag ∙ h) in
    ap (λ b. is_secure key.proof && (b && option_map_or (usable_key verifier) (dnskey_of key) false)) invalid
    ∙ and_right (is_secure key.proof) false refl

-- ---- of a tag there are two keys

turn_case : (proves put has : Bool) (rest n : ℕ) → (put ≡ false → proves ≡ false) → (has ≡ false → put ≡ false) → rest ≡ n
    → (if proves then 1 else (if put then 1 else 0) + rest) ≤ cond has 1 0 + n
turn_case true put true rest n unput other h = omega (arith, h)
turn_case false true true rest n unput other h = omega (arith, h)
turn_case false false true rest n unput other h = omega (arith, h)
turn_case true put false rest n unput other h = let e : true ≡ false = unput (other refl) in cc
turn_case false true false rest n unput other h = let e : true ≡ false = other refl in cc
turn_case false false false rest n unput other h = omega (arith, h)

turn_most : (verifier : VerifierAnswers) (now : ℕ) (set : RrSet) (r : Rr) (sig : RrsigValue) (key : Rr) (keys : List Rr)
    → rrsig_of r ≡ Some sig
    → calls_in_turn verifier now set r (key ∷ keys) ≤ cond (has_tag sig.key_tag key) 1 0 + calls_in_turn verifier now set r keys
turn_most verifier now set r sig key keys read =
    rw (turn_of verifier now set r key keys)
    (turn_case (is_proving verifier now set r key) (is_put verifier now set r key) (has_tag sig.key_tag key)
    (calls_in_turn verifier now set r keys)
    (calls_in_turn verifier now set r keys) (unput verifier now set r key)
    (other_tag verifier now set r key sig (dnskey_of key) read refl) refl)

tag_count : (tag : ℕ) (key : Rr) (met : List Rr) → has_tag tag key ≡ true → count_by (same_tag key) met ≡ count_by (has_tag tag) met
tag_count tag key met h = ap (λ t. count_by (has_tag t) met) (sym (number_same tag (key_tag_of key.rdata) h))

-- the calls by the keys that are left, those before of the tag counted to two
two_case : (few has : Bool) (own met more calls all : ℕ) → few ≡ nat_lt own 2 → (has ≡ true → own ≡ met) → more ≡ met + cond has 1 0
    → calls + min 2 more ≤ 2 → all ≤ (if few then cond has 1 0 + calls else calls) → all + min 2 met ≤ 2
two_case true true own met more calls all few same is h most = let e : own ≡ met = same refl in
    grind (arith, nat_tests, e, few, is, h, most)
two_case false true own met more calls all few same is h most = let e : own ≡ met = same refl in
    grind (arith, nat_tests, e, few, is, h, most)
two_case true false own met more calls all few same is h most = grind (arith, nat_tests, is, h, most)
two_case false false own met more calls all few same is h most = grind (arith, nat_tests, is, h, most)

early_none : (met : List Rr) → early_after met [] ≡ []
unfolding early_after
early_none met = refl

early_case : (verifier : VerifierAnswers) (now : ℕ) (set : RrSet) (r : Rr) (sig : RrsigValue) (key : Rr) (left : List Rr) (few : Bool)
    → rrsig_of r ≡ Some sig
    → calls_in_turn verifier now set r (cond few (key ∷ left) left)
    ≤ (if few then cond (has_tag sig.key_tag key) 1 0 + calls_in_turn verifier now set r left else calls_in_turn verifier now set r left)
early_case verifier now set r sig key left true read = turn_most verifier now set r sig key left read
early_case verifier now set r sig key left false read = omega arith

two_calls : (verifier : VerifierAnswers) (now : ℕ) (set : RrSet) (r : Rr) (sig : RrsigValue) (met keys : List Rr) → rrsig_of r ≡ Some sig
    → calls_in_turn verifier now set r (early_after met keys) + min 2 (count_by (has_tag sig.key_tag) met) ≤ 2
two_calls verifier now set r sig met [] read =
    let none : calls_in_turn verifier now set r (early_after met []) ≡ 0 = ap (calls_in_turn verifier now set r) (early_none met)
    ∙ none_of verifier now set r in
    grind (arith, nat_tests, none)
two_calls verifier now set r sig met (key ∷ keys) read =
    let left = early_after (met ++ key ∷ []) keys in
    let few = nat_lt (count_by (same_tag key) met) 2 in
    two_case few (has_tag sig.key_tag key) (count_by (same_tag key) met) (count_by (has_tag sig.key_tag) met)
    (count_by (has_tag sig.key_tag) (met ++ key ∷ [])) (calls_in_turn verifier now set r left)
    (calls_in_turn verifier now set r (early_after met (key ∷ keys)))
    refl (tag_count sig.key_tag key met) (count_push (has_tag sig.key_tag) met key)
    (two_calls verifier now set r sig (met ++ key ∷ []) keys read)
    (rw (next_of met key keys) (early_case verifier now set r sig key left few read))

none_before : (tag : ℕ) → count_by (has_tag tag) [] ≡ 0
none_before tag = refl

counted_most : (verifier : VerifierAnswers) (now : ℕ) (set : RrSet) (r : Rr) (sig : RrsigValue) (zone : Labels) (keys : List Rr)
    → rrsig_of r ≡ Some sig
    → calls_in_turn verifier now set r (counted_keys zone keys) ≤ 2
counted_most verifier now set r sig zone keys read =
    let counted = first_two-after (filter (is_key_of_zone zone) keys) in
    let two = two_calls verifier now set r sig [] (filter (is_key_of_zone zone) keys) read in
    rw counted (omega (arith, two))

read_most : (verifier : VerifierAnswers) (now : ℕ) (keys : List Rr) (set : RrSet) (r : Rr) (sig : RrsigValue) (covers : Bool)
    → rrsig_of r ≡ Some sig
    → (if covers then calls_in_turn verifier now set r (counted_keys sig.signer keys) else 0) ≤ 2
read_most verifier now keys set r sig true read = counted_most verifier now set r sig sig.signer keys read
read_most verifier now keys set r sig false read = omega arith

calls_case : (verifier : VerifierAnswers) (now : ℕ) (keys : List Rr) (set : RrSet) (r : Rr) (read : Option RrsigValue) → rrsig_of r ≡ read
    → calls_by_keys_read verifier now keys set r read ≤ 2
calls_case verifier now keys set r None is = omega arith
calls_case verifier now keys set r (Some sig) is = read_most verifier now keys set r sig (may_be_signed set sig) is

-- two calls for a signature at the most
pub two_at_most : (verifier : VerifierAnswers) (now : ℕ) (keys : List Rr) (set : RrSet) (r : Rr) → calls_by_keys verifier now keys set r ≤ 2
two_at_most verifier now keys set r = calls_case verifier now keys set r (rrsig_of r) refl
