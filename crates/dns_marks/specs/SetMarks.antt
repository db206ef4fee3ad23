-- The marks of sets that aren't DNSKEY, from the answers to the asks of their signatures (RFC 4035, 4.3 and 5.3).
use Rattle.std.specs.Prelude.{ℕ, ◌+◌, Bool, true, false, List, [], ◌∷◌, map, take, Option, None, Some, Result, Ok, Err, slice_get, if◌then◌else◌}
use Rattle.std.specs.Option.{option_map_or, option_and_then, option_or}
use Rattle.std.specs.List.{list_all, filter_map, zip}
use Rattle.dns_model.specs.declared.proof.Proof.{Proof}
use Rattle.dns_model.specs.declared.proof.Proof.TheVariants.{Secure, Insecure, Bogus}
use Rattle.dns_model.specs.Keys.{VerifierAnswers}
use Rattle.dns_model.specs.Records.{Rr, RrSet, Question}
use Rattle.dns_rules.specs.Marks.{most_signatures}
use Rattle.dns_rules.specs.Derivation.{proof_eq}
use Rattle.dns_rules.specs.ProofErrors.{ProofErrorKindValue, ProofErrorValue, RrsetProofValue, RrsigsNotPresent, Net, RrsigsUnverified}
use Rattle.dns_marks.specs.declared.set_mark.KeyAnswer.{KeyAnswer}
use Rattle.dns_marks.specs.declared.set_mark.KeyAnswer.TheVariants.{Skipped, Failed, Keys}
use Rattle.dns_cache.specs.Kinds.{because}
use Rattle.dns_marks.specs.SignatureKeys.{keys_proof, calls_by_keys}

-- what came of an ask, as a plain value
pub data KeyAnswerValue : Type 0 where
  NotAsked : KeyAnswerValue
  Unanswered : (query : Question) → KeyAnswerValue
  Answered : (keys : List Rr) → KeyAnswerValue

abbrev pub key_answer_value : KeyAnswer → KeyAnswerValue
key_answer_value Skipped = NotAsked
key_answer_value (Failed query) = Unanswered query
key_answer_value (Keys keys) = Answered keys.items

-- what a signature proves of a set by the answer to its ask; none where it proves nothing
abbrev pub answer_proof : VerifierAnswers → ℕ → RrSet → Rr → KeyAnswer → Option RrsetProofValue
answer_proof verifier now set r (Keys keys) = keys_proof verifier now keys.items set r
answer_proof verifier now set r _ = None

-- what some signatures prove, each by its answer
abbrev pub answer_proofs : VerifierAnswers → ℕ → RrSet → List Rr → List KeyAnswer → List (Option RrsetProofValue)
answer_proofs verifier now set signatures answers =
    map (λ p. answer_proof verifier now set p.0 p.1) (zip signatures answers)

-- a proof of a mark, as that of the signature at a place
abbrev pub proof_at : Proof → ℕ → Option RrsetProofValue → Option RrsetProofValue
proof_at mark place found =
    option_and_then (λ p. if proof_eq p.proof mark then Some (record p { rrsig_index = Some place }) else None) found

-- the first such proof of a list whose first element stands at a place
unfoldable pub first_proof : Proof → ℕ → List (Option RrsetProofValue) → Option RrsetProofValue
first_proof mark place [] = None
first_proof mark place (found ∷ more) = option_or (proof_at mark place found) (first_proof mark (place + 1) more)

-- the first signature that is Secure decides, else the first that is Insecure
abbrev pub deciding_proof : List (Option RrsetProofValue) → Option RrsetProofValue
deciding_proof proofs = option_or (first_proof Secure 0 proofs) (first_proof Insecure 0 proofs)

abbrev pub is_skipped_answer : KeyAnswer → Bool
is_skipped_answer Skipped = true
is_skipped_answer _ = false

-- the question of an ask that failed
abbrev pub failed_ask : KeyAnswer → Option Question
failed_ask (Failed query) = Some query
failed_ask _ = None

-- why no signature decides: none was asked for; an ask failed, of which the first is told; or none proves the set
abbrev pub no_proof : RrSet → List KeyAnswer → ProofErrorKindValue
no_proof set answers =
    if list_all is_skipped_answer answers then RrsigsNotPresent set.owner set.rtype
    else option_map_or Net (slice_get (filter_map failed_ask answers) 0) (RrsigsUnverified set.owner set.rtype)

-- the mark of a set that isn't DNSKEY and has a signature, by the answers to the asks of its first eight signatures
abbrev pub set_proof : VerifierAnswers → ℕ → RrSet → List KeyAnswer → Result RrsetProofValue ProofErrorValue
set_proof verifier now set answers =
    option_map_or Ok (deciding_proof (answer_proofs verifier now set (take most_signatures set.signatures) answers))
    (Err (because Bogus (no_proof set answers)))

-- ---- how often the verifier is asked whether it accepts a signature

-- for a signature, by the answer to its ask
abbrev pub answer_calls : VerifierAnswers → ℕ → RrSet → Rr → KeyAnswer → ℕ
answer_calls verifier now set r (Keys keys) = calls_by_keys verifier now keys.items set r
answer_calls verifier now set r _ = 0

abbrev pub is_secure_proof : Option RrsetProofValue → Bool
is_secure_proof found = option_map_or (λ p. proof_eq p.proof Secure) found false

-- for each signature in turn, up to the first that is Secure
unfoldable pub set_calls : VerifierAnswers → ℕ → RrSet → List (Rr × KeyAnswer) → ℕ
set_calls verifier now set [] = 0
set_calls verifier now set (signed ∷ more) =
    answer_calls verifier now set signed.0 signed.1
    + (if is_secure_proof (answer_proof verifier now set signed.0 signed.1) then 0 else set_calls verifier now set more)
