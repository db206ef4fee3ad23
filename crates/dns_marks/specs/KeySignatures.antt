-- What a signature proves of a set by one key (RFC 4035, 5.3).
use Rattle.std.specs.Prelude.{ℕ, Bool, false, not, ◌==◌, ◌&&◌, Option, None, Some, Result, Ok, Err, if◌then◌else◌}
use Rattle.std.specs.Option.{option_map_or, option_and_then, option_map}
use Rattle.dns_model.specs.declared.proof.Proof.TheVariants.{Bogus}
use Rattle.dns_model.specs.Views.{RrsigValue, DnskeyValue, is_zone_key, is_revoked}
use Rattle.dns_model.specs.Names.{Labels}
use Rattle.dns_model.specs.Serial.{timely}
use Rattle.dns_model.specs.Signing.{signed_bytes}
use Rattle.dns_model.specs.Keys.{VerifierAnswers, usable_key}
pub use Rattle.dns_model.specs.Gives.{Unless}
use Rattle.dns_model.specs.Chains.{rdatas_of}
use Rattle.dns_model.specs.Records.{Rr, RrSet}
use Rattle.dns_model.specs.RecordViews.{rrsig_of, dnskey_of}
use Rattle.dns_model.specs.SoundAnswers.{is_secure}
use Rattle.dns_rules.specs.Validity.{Validity, validity, is_valid}
use Rattle.dns_rules.specs.ProofErrors.{ProofErrorKindValue, ProofErrorValue, RrsetProofValue, InsecureDnsKey, DnsKeyRevoked, NotZoneDnsKey, AlgorithmMismatch, Msg, DnsKeyVerifyRrsig}
use Rattle.dns_trust.specs.declared.usable.KeyFault.{KeyFault}
use Rattle.dns_trust.specs.declared.usable.KeyFault.TheVariants.{Revoked, NotZoneKey}
use Rattle.dns_cache.specs.Kinds.{because}
use Rattle.dns_marks.specs.Misfits.{misfit}
use Rattle.dns_cache.specs.Proofs.{proved_by}

-- whether a signature fits a set and a key at a moment
abbrev pub validity_at : ℕ → RrSet → Rr → Rr → Validity
validity_at now set r key = validity (λ sig. timely sig now) set r key

-- the first test that a key fails by itself: its mark, its flags and protocol, its algorithm
abbrev pub key_failure : Rr → RrsigValue → DnskeyValue → Option ProofErrorValue
key_failure key sig text =
    if not (is_secure key.proof) then Some (because key.proof (InsecureDnsKey key.owner sig.key_tag))
    else if is_revoked text then Some (because Bogus (DnsKeyRevoked key.owner sig.key_tag))
    else if not (is_zone_key text && (text.protocol == 3))
    then Some (because Bogus (NotZoneDnsKey key.owner sig.key_tag))
    else if not (text.algorithm == sig.algorithm)
    then Some (because Bogus (AlgorithmMismatch sig.algorithm text.algorithm))
    else None

-- the algorithm is supported, and the verifier accepts the signature of the set as the key's
abbrev pub is_verified : VerifierAnswers → RrSet → RrsigValue → DnskeyValue → Bool
is_verified verifier set sig text =
    verifier.supports text.algorithm
    && verifier.accepts sig.algorithm text.key
    (signed_bytes set.owner set.rtype set.class (rdatas_of set.records) sig) sig.signature

-- by a key that passes these tests
abbrev pub proof_by_key : VerifierAnswers → ℕ → RrSet → Rr → Rr → RrsigValue → DnskeyValue
    → Result RrsetProofValue ProofErrorValue
proof_by_key verifier now set r key sig text =
    option_map_or (λ name. Err (because Bogus (Msg name))) (misfit (validity_at now set r key))
    (if is_verified verifier set sig text then Ok (proved_by now set r None)
    else Err (because Bogus (DnsKeyVerifyRrsig key.owner sig.key_tag)))

abbrev pub proof_read : VerifierAnswers → ℕ → RrSet → Rr → Rr → RrsigValue → DnskeyValue
    → Result RrsetProofValue ProofErrorValue
proof_read verifier now set r key sig text =
    option_map_or Err (key_failure key sig text) (proof_by_key verifier now set r key sig text)

-- what a signature (third) proves of a set by a key (fourth); none where the one or the other can't be read
abbrev pub signature_proof : VerifierAnswers → ℕ → RrSet → Rr → Rr → Option (Result RrsetProofValue ProofErrorValue)
signature_proof verifier now set r key =
    option_and_then (λ sig. option_map (proof_read verifier now set r key sig) (dnskey_of key)) (rrsig_of r)

-- the verifier is asked whether it accepts the signature: the key is Secure and may sign, and signature, set, key and
-- moment fit
abbrev pub is_put : VerifierAnswers → ℕ → RrSet → Rr → Rr → Bool
is_put verifier now set r key =
    is_secure key.proof
    && (is_valid (validity_at now set r key) && option_map_or (usable_key verifier) (dnskey_of key) false)

-- how often
abbrev pub calls_by_key : VerifierAnswers → ℕ → RrSet → Rr → Rr → ℕ
calls_by_key verifier now set r key = if is_put verifier now set r key then 1 else 0

-- ---- for private functions of this crate only

-- the cause that names a key's fault
abbrev pub fault_cause : Labels → ℕ → KeyFault → ProofErrorKindValue
fault_cause owner key_tag Revoked = DnsKeyRevoked owner key_tag
fault_cause owner key_tag NotZoneKey = NotZoneDnsKey owner key_tag

-- by a key that may sign if its algorithm is supported, where the signature fits
abbrev pub calls_if_supported : VerifierAnswers → DnskeyValue → ℕ
calls_if_supported verifier text = if verifier.supports text.algorithm then 1 else 0

-- none where a test fails
abbrev pub calls_unless : {X : Type 0} → ℕ → Option X → ℕ
calls_unless calls None = calls
calls_unless calls (Some failure) = 0

-- how often, where key and signature are read
abbrev pub calls_read : VerifierAnswers → ℕ → RrSet → Rr → Rr → RrsigValue → DnskeyValue → ℕ
calls_read verifier now set r key sig text =
    calls_unless (calls_unless (calls_if_supported verifier text) (misfit (validity_at now set r key)))
    (key_failure key sig text)
