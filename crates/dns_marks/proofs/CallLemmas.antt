-- When the verifier is asked whether it accepts a signature.
use Rattle.std.proofs.Common.{◌≡◌, ℕ, Bool, true, false, not, ◌==◌, ◌&&◌, List, Option, None, Some, refl, sym, ap, ◌∙◌}
use Rattle.std.specs.Prelude.{if◌then◌else◌, min, slice_get}
use Rattle.std.specs.Option.{option_map, option_map_or, option_and_then}
use Rattle.std.proofs.lemmas.Bool.{and_right}
use Rattle.dns_model.specs.Views.{RrsigValue, DnskeyValue, is_zone_key, is_revoked}
use Rattle.dns_model.specs.Serial.{timely}
use Rattle.dns_model.specs.Names.{name_eq}
use Rattle.dns_model.specs.Signing.{signed_bytes, key_tag_of}
use Rattle.dns_model.specs.Keys.{VerifierAnswers, usable_key}
use Rattle.dns_model.specs.Chains.{rdatas_of}
use Rattle.dns_model.specs.Records.{Rr, RrSet}
use Rattle.dns_model.specs.RecordViews.{rrsig_of, dnskey_of}
use Rattle.dns_model.specs.SoundAnswers.{is_secure, signed_ttl, ttl_of}
use Rattle.dns_rules.specs.Validity.{Validity, ValidRrsig, ExpiredRrsig, WrongDnskey, WrongRrsig, validity, is_valid, is_of_set, is_by_key, is_good_by}
use Rattle.dns_rules.specs.MarkParts.{sig_validity}
use Rattle.dns_rules.specs.ProofErrors.{ProofErrorValue}
use Rattle.dns_marks.specs.Misfits.{misfit}
use Rattle.dns_marks.specs.KeySignatures.{validity_at, proof_read, signature_proof, is_put, calls_by_key, calls_unless, calls_read}
use Rattle.dns_marks.specs.SignatureKeys.{is_proving}
use Rattle.dns_cache.specs.Proofs.{proved_by, proved_with}

-- ---- a key or a signature that can't be read

validity_unread : (now : ℕ) (set : RrSet) (r key : Rr) → rrsig_of r ≡ None → is_valid (validity_at now set r key) ≡ false
unfolding validity
validity_unread now set r key h = ap (λ o. is_valid (sig_validity (λ sig. timely sig now) set r key o)) h

-- of a signature that is read the view is enough
pub validity_read : (now : ℕ) (set : RrSet) (r key : Rr) (sig : RrsigValue) → rrsig_of r ≡ Some sig
    → validity_at now set r key ≡ sig_validity (λ s. timely s now) set r key (Some sig)
unfolding validity
validity_read now set r key sig h = ap (λ o. sig_validity (λ s. timely s now) set r key o) h

-- so what it proves is known without its record
pub proved_as_read : (now : ℕ) (set : RrSet) (r : Rr) (sig : RrsigValue) (place : Option ℕ) → rrsig_of r ≡ Some sig
    → proved_with (min (ttl_of (slice_get set.records 0)) (signed_ttl (Some sig) now)) place ≡ proved_by now set r place
proved_as_read now set r sig place h =
    ap (λ o. proved_with (min (ttl_of (slice_get set.records 0)) (signed_ttl o now)) place) (sym h)

-- without a signature the verifier isn't asked
pub put_no_signature : (verifier : VerifierAnswers) (now : ℕ) (set : RrSet) (r key : Rr) → rrsig_of r ≡ None
    → is_put verifier now set r key ≡ false
put_no_signature verifier now set r key h =
    ap (λ b. is_secure key.proof && (b && option_map_or (usable_key verifier) (dnskey_of key) false)) (validity_unread now set r key h)
    ∙ and_right (is_secure key.proof) false refl

-- nor without a key
pub put_no_key : (verifier : VerifierAnswers) (now : ℕ) (set : RrSet) (r key : Rr) → dnskey_of key ≡ None
    → is_put verifier now set r key ≡ false
put_no_key verifier now set r key h =
    ap (λ o. is_secure key.proof && (is_valid (validity_at now set r key) && option_map_or (usable_key verifier) o false)) h
    ∙ and_right (is_secure key.proof) (is_valid (validity_at now set r key)
    && false) (and_right (is_valid (validity_at now set r key)) false refl)

-- ---- what a call answers

proving_parts : (secure valid : Bool) (usable accepted : Bool)
    → (secure && (valid && (usable && accepted))) ≡ ((secure && (valid && usable)) && accepted)
proving_parts true true usable accepted = refl
proving_parts true false usable accepted = refl
proving_parts false valid usable accepted = refl

-- of a signature and a key that are read
proving_read : (verifier : VerifierAnswers) (now : ℕ) (set : RrSet) (r key : Rr) (sig : RrsigValue) (text : DnskeyValue)
    → rrsig_of r ≡ Some sig → dnskey_of key ≡ Some text
    → is_proving verifier now set r key
    ≡ (is_put verifier now set r key
    && verifier.accepts sig.algorithm text.key (signed_bytes set.owner set.rtype set.class (rdatas_of set.records) sig) sig.signature)
unfolding is_good_by
proving_read verifier now set r key sig text read is =
    let accepted = λ (s : RrsigValue) (t : DnskeyValue). verifier.accepts s.algorithm t.key
    (signed_bytes set.owner set.rtype set.class (rdatas_of set.records) s) s.signature in
    ap (λ o. is_secure key.proof && (is_valid (validity_at now set r key)
    && option_map_or (λ s. option_map_or (λ t. usable_key verifier t && accepted s t) (dnskey_of key) false) o false)) read
    ∙ ap (λ o. is_secure key.proof && (is_valid (validity_at now set r key)
    && option_map_or (λ t. usable_key verifier t && accepted sig t) o false)) is
    ∙ proving_parts (is_secure key.proof) (is_valid (validity_at now set r key)) (usable_key verifier text) (accepted sig text)
    ∙ ap (λ o. (is_secure key.proof && (is_valid (validity_at now set r key) && option_map_or (usable_key verifier) o false))
    && accepted sig text) (sym is)

unput_case : (secure valid : Bool) (sig : Option RrsigValue) (key : Option DnskeyValue) (may : DnskeyValue
    → Bool) (accepted : RrsigValue → DnskeyValue → Bool)
    → (secure && (valid && option_map_or may key false)) ≡ false
    → (secure && (valid && option_map_or (λ s. option_map_or (λ t. may t && accepted s t) key false) sig false)) ≡ false
unput_case false valid sig key may accepted h = refl
unput_case true false sig key may accepted h = refl
unput_case true true None key may accepted h = refl
unput_case true true (Some s) None may accepted h = refl
unput_case true true (Some s) (Some t) may accepted h = ap (λ b. b && accepted s t) h

-- a key that isn't put to it proves nothing
pub unput : (verifier : VerifierAnswers) (now : ℕ) (set : RrSet) (r key : Rr) → is_put verifier now set r key ≡ false
    → is_proving verifier now set r key ≡ false
unfolding is_good_by
unput verifier now set r key h =
    unput_case (is_secure key.proof) (is_valid (validity_at now set r key)) (rrsig_of r) (dnskey_of key) (usable_key verifier)
    (λ s t. verifier.accepts s.algorithm t.key (signed_bytes set.owner set.rtype set.class (rdatas_of set.records) s) s.signature) h

-- without a signature or a key nothing is proved, and nobody is asked
pub unread_signature : (verifier : VerifierAnswers) (now : ℕ) (set : RrSet) (r key : Rr) → rrsig_of r ≡ None
    → is_proving verifier now set r key ≡ false
unread_signature verifier now set r key h = unput verifier now set r key (put_no_signature verifier now set r key h)

pub unread_key : (verifier : VerifierAnswers) (now : ℕ) (set : RrSet) (r key : Rr) → dnskey_of key ≡ None
    → is_proving verifier now set r key ≡ false
unread_key verifier now set r key h = unput verifier now set r key (put_no_key verifier now set r key h)

-- a key that is put to it proves the set where it accepts
pub put_accepted : (verifier : VerifierAnswers) (now : ℕ) (set : RrSet) (r key : Rr) (sig : RrsigValue) (text : DnskeyValue)
    (bytes : List ℕ) → rrsig_of r ≡ Some sig
    → dnskey_of key ≡ Some text → is_put verifier now set r key ≡ true
    → bytes ≡ signed_bytes set.owner set.rtype set.class (rdatas_of set.records) sig
    → verifier.accepts sig.algorithm text.key bytes sig.signature ≡ is_proving verifier now set r key
put_accepted verifier now set r key sig text bytes read is put built =
    sym (proving_read verifier now set r key sig text read is
    ∙ ap (λ b. b && verifier.accepts sig.algorithm text.key (signed_bytes set.owner set.rtype set.class (rdatas_of set.records) sig)
    sig.signature) put
    ∙ ap (λ bs. verifier.accepts sig.algorithm text.key bs sig.signature) (sym built))

-- ---- the tests in their order

calls_case : (secure revoked zone three algorithm supported : Bool) (valid : Validity) (a b c d : ProofErrorValue)
    → (algorithm ≡ false → is_valid valid ≡ false)
    → (if secure && (is_valid valid && (zone && (not revoked && (three && supported)))) then 1 else 0)
    ≡ calls_unless (calls_unless (if supported then 1 else 0) (misfit valid))
    (if not secure then Some a else if revoked then Some b else if not (zone && three) then Some c else if not algorithm
    then Some d else None)
calls_case false revoked zone three algorithm supported valid a b c d h = refl
calls_case true true zone three algorithm supported valid a b c d h =
    ap (λ t. if t then 1 else 0) (and_right (is_valid valid) (zone && false) (and_right zone false refl))
calls_case true false false three algorithm supported valid a b c d h = ap (λ t. if t then 1 else 0) (and_right (is_valid valid) false refl)
calls_case true false true false algorithm supported valid a b c d h = ap (λ t. if t then 1 else 0) (and_right (is_valid valid) false refl)
calls_case true false true true false supported valid a b c d h = ap (λ t. if t && supported then 1 else 0) (h refl)
calls_case true false true true true supported ValidRrsig a b c d h = refl
calls_case true false true true true supported ExpiredRrsig a b c d h = refl
calls_case true false true true true supported WrongDnskey a b c d h = refl
calls_case true false true true true supported WrongRrsig a b c d h = refl

-- a signature of another algorithm than the key's doesn't fit
fit_case : (of_set timely_now named tag zone : Bool) (algorithm : Bool) → algorithm ≡ false
    → is_valid (if not of_set then WrongRrsig else if not timely_now then ExpiredRrsig else if named
    && (algorithm && (tag && zone)) then ValidRrsig else WrongDnskey) ≡ false
fit_case false timely_now named tag zone algorithm h = refl
fit_case true false named tag zone algorithm h = refl
fit_case true true false tag zone algorithm h = refl
fit_case true true true tag zone true h = cc
fit_case true true true tag zone false h = refl

other_algorithm : (now : ℕ) (set : RrSet) (r key : Rr) (sig : RrsigValue) (text : DnskeyValue) → rrsig_of r ≡ Some sig
    → dnskey_of key ≡ Some text
    → (text.algorithm == sig.algorithm) ≡ false → is_valid (validity_at now set r key) ≡ false
unfolding validity
other_algorithm now set r key sig text read is h =
    ap (λ o. is_valid (sig_validity (λ s. timely s now) set r key o)) read
    ∙ ap (λ o. is_valid (if not (is_of_set set r sig) then WrongRrsig else if not (timely sig now) then ExpiredRrsig
    else option_map_or (λ t. if is_by_key sig key t then ValidRrsig else WrongDnskey) o WrongDnskey)) is
    ∙ fit_case (is_of_set set r sig) (timely sig now) (name_eq sig.signer key.owner) (key_tag_of key.rdata == sig.key_tag)
    (is_zone_key text) (text.algorithm == sig.algorithm) h

-- how often the verifier is asked, by the tests in their order
pub calls_as_read : (verifier : VerifierAnswers) (now : ℕ) (set : RrSet) (r key : Rr) (sig : RrsigValue) (text : DnskeyValue)
    → rrsig_of r ≡ Some sig → dnskey_of key ≡ Some text
    → calls_by_key verifier now set r key ≡ calls_read verifier now set r key sig text
calls_as_read verifier now set r key sig text read is =
    ap (λ o. if is_secure key.proof && (is_valid (validity_at now set r key) && option_map_or (usable_key verifier) o false)
    then 1 else 0) is
    ∙ calls_case (is_secure key.proof) (is_revoked text) (is_zone_key text) (text.protocol == 3)
    (text.algorithm == sig.algorithm) (verifier.supports text.algorithm)
    (validity_at now set r key) _ _ _ _ (other_algorithm now set r key sig text read is)

-- what is proved, where signature and key are read
pub proof_as_read : (verifier : VerifierAnswers) (now : ℕ) (set : RrSet) (r key : Rr) (sig : RrsigValue) (text : DnskeyValue)
    → rrsig_of r ≡ Some sig → dnskey_of key ≡ Some text
    → signature_proof verifier now set r key ≡ Some (proof_read verifier now set r key sig text)
proof_as_read verifier now set r key sig text read is =
    ap (λ o. option_and_then (λ s. option_map (proof_read verifier now set r key s) (dnskey_of key)) o) read
    ∙ ap (λ o. option_map (proof_read verifier now set r key sig) o) is
