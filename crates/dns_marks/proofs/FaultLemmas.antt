-- Which test a key fails first by itself, where its fault is known.
use Rattle.std.proofs.Common.{◌≡◌, Bool, true, false, not, ◌==◌, ◌&&◌, Option, None, Some, refl, ap}
use Rattle.std.specs.Prelude.{if◌then◌else◌}
use Rattle.std.specs.Option.{option_map}
use Rattle.dns_model.specs.declared.proof.Proof.TheVariants.{Bogus}
use Rattle.dns_model.specs.Records.{Rr}
use Rattle.dns_model.specs.Views.{RrsigValue, DnskeyValue, is_zone_key, is_revoked}
use Rattle.dns_model.specs.SoundAnswers.{is_secure}
use Rattle.dns_rules.specs.ProofErrors.{ProofErrorValue, InsecureDnsKey, AlgorithmMismatch}
use Rattle.dns_trust.specs.declared.usable.KeyFault.{KeyFault}
use Rattle.dns_trust.specs.declared.usable.KeyFault.TheVariants.{Revoked, NotZoneKey}
use Rattle.dns_trust.specs.KeyFaults.{fault_of}
use Rattle.dns_cache.specs.Kinds.{because}
use Rattle.dns_marks.specs.KeySignatures.{fault_cause, key_failure}

told_case : (secure revoked good : Bool) (fault : KeyFault) (tell : KeyFault → ProofErrorValue) (first rest : Option ProofErrorValue)
    → secure ≡ true
    → Some fault ≡ (if revoked then Some Revoked else if not good then Some NotZoneKey else None)
    → Some (tell fault) ≡ (if not secure then first else if revoked then Some (tell Revoked) else if not good
    then Some (tell NotZoneKey) else rest)
told_case false revoked good fault tell first rest is h = cc
told_case true true good fault tell first rest is h = ap (option_map tell) h
told_case true false false fault tell first rest is h = ap (option_map tell) h
told_case true false true fault tell first rest is h = cc

past_case : (secure revoked good : Bool) (tell : KeyFault → ProofErrorValue) (first rest : Option ProofErrorValue) → secure ≡ true
    → None ≡ (if revoked then Some Revoked else if not good then Some NotZoneKey else None)
    → rest ≡ (if not secure then first else if revoked then Some (tell Revoked) else if not good then Some (tell NotZoneKey) else rest)
past_case false revoked good tell first rest is h = cc
past_case true true good tell first rest is h = cc
past_case true false false tell first rest is h = cc
past_case true false true tell first rest is h = refl

-- its fault is told, where it is Secure
pub failure_by_fault : (key : Rr) (sig : RrsigValue) (text : DnskeyValue) (fault : KeyFault) → is_secure key.proof ≡ true
    → Some fault ≡ fault_of text
    → Some (because Bogus (fault_cause key.owner sig.key_tag fault)) ≡ key_failure key sig text
failure_by_fault key sig text fault is h =
    told_case (is_secure key.proof) (is_revoked text) (is_zone_key text && (text.protocol == 3)) fault
    (λ f. because Bogus (fault_cause key.owner sig.key_tag f))
    (Some (because key.proof (InsecureDnsKey key.owner sig.key_tag)))
    (if not (text.algorithm == sig.algorithm) then Some (because Bogus (AlgorithmMismatch sig.algorithm text.algorithm)) else None) is h

-- where it has none its algorithm is all that is left
pub failure_past_fault : (key : Rr) (sig : RrsigValue) (text : DnskeyValue) → is_secure key.proof ≡ true → None ≡ fault_of text
    → (if not (text.algorithm == sig.algorithm) then Some (because Bogus (AlgorithmMismatch sig.algorithm text.algorithm))
    else None) ≡ key_failure key sig text
failure_past_fault key sig text is h =
    past_case (is_secure key.proof) (is_revoked text) (is_zone_key text && (text.protocol == 3))
    (λ f. because Bogus (fault_cause key.owner sig.key_tag f))
    (Some (because key.proof (InsecureDnsKey key.owner sig.key_tag)))
    (if not (text.algorithm == sig.algorithm) then Some (because Bogus (AlgorithmMismatch sig.algorithm text.algorithm)) else None) is h
