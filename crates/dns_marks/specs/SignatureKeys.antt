-- What a signature proves of a set by keys that have a mark each (RFC 4035, 4.3 and 5.3).
use Rattle.std.specs.Prelude.{ℕ, ◌+◌, Bool, ◌&&◌, List, [], ◌∷◌, Option, None, Some, is_some, slice_get, if◌then◌else◌}
use Rattle.std.specs.Option.{option_map_or, option_and_then}
use Rattle.std.specs.List.{list_any, list_all}
use Rattle.dns_model.specs.declared.proof.Proof.{Proof}
use Rattle.dns_model.specs.declared.proof.Proof.TheVariants.{Insecure}
use Rattle.dns_model.specs.declared.proof.Proof.TheVariants as proof
use Rattle.dns_model.specs.Views.{RrsigValue}
use Rattle.dns_model.specs.Keys.{VerifierAnswers}
use Rattle.dns_model.specs.Chains.{Judge, judge}
use Rattle.dns_model.specs.Records.{Rr, RrSet}
use Rattle.dns_model.specs.RecordViews.{rrsig_of}
use Rattle.dns_model.specs.SoundAnswers.{is_secure}
use Rattle.dns_rules.specs.Validity.{is_good_by}
use Rattle.dns_rules.specs.Marks.{Verdict, Proved, Failed, may_be_signed, counted_keys}
use Rattle.dns_rules.specs.Marks as marks
use Rattle.dns_rules.specs.Derivation.{proof_eq}
use Rattle.dns_rules.specs.ProofErrors.{RrsetProofValue}
use Rattle.dns_cache.specs.Proofs.{proved_by, excused}
use Rattle.dns_marks.specs.KeySignatures.{is_put}

-- signatures are good by a verifier at a moment; no anchor is looked at
abbrev pub judge_at : VerifierAnswers → ℕ → Judge
judge_at verifier now = judge verifier [] now

-- the key is Secure, and the signature (third) of the set is good by it
abbrev pub is_proving : VerifierAnswers → ℕ → RrSet → Rr → Rr → Bool
is_proving verifier now set r key = is_secure key.proof && is_good_by (judge_at verifier now) set r key

-- there is a key, and all are Insecure
abbrev pub are_insecure : List Rr → Bool
are_insecure keys = is_some (slice_get keys 0) && list_all (λ key. proof_eq key.proof Insecure) keys

-- by the keys that count: Secure where one of them proves the set, else Insecure where all of them are
abbrev pub proof_by_keys : VerifierAnswers → ℕ → RrSet → Rr → List Rr → Option RrsetProofValue
proof_by_keys verifier now set r keys =
    if list_any (is_proving verifier now set r) keys then Some (proved_by now set r None)
    else if are_insecure keys then Some excused
    else None

abbrev pub keys_proof_read : VerifierAnswers → ℕ → List Rr → RrSet → Rr → RrsigValue → Option RrsetProofValue
keys_proof_read verifier now keys set r sig =
    if may_be_signed set sig then proof_by_keys verifier now set r (counted_keys sig.signer keys) else None

-- what a signature (last) proves of a set by some keys, of which the first two of each tag count that are the signer's;
-- none where it proves nothing, and where it can't be read
abbrev pub keys_proof : VerifierAnswers → ℕ → List Rr → RrSet → Rr → Option RrsetProofValue
keys_proof verifier now keys set r = option_and_then (keys_proof_read verifier now keys set r) (rrsig_of r)

-- ---- how often the verifier is asked whether it accepts the signature

-- for each key in turn that is put to it, up to the first that proves the set
unfoldable pub calls_in_turn : VerifierAnswers → ℕ → RrSet → Rr → List Rr → ℕ
calls_in_turn verifier now set r [] = 0
calls_in_turn verifier now set r (key ∷ keys) =
    if is_proving verifier now set r key then 1
    else (if is_put verifier now set r key then 1 else 0) + calls_in_turn verifier now set r keys

abbrev pub calls_by_keys_read : VerifierAnswers → ℕ → List Rr → RrSet → Rr → Option RrsigValue → ℕ
calls_by_keys_read verifier now keys set r None = 0
calls_by_keys_read verifier now keys set r (Some sig) =
    if may_be_signed set sig then calls_in_turn verifier now set r (counted_keys sig.signer keys) else 0

abbrev pub calls_by_keys : VerifierAnswers → ℕ → List Rr → RrSet → Rr → ℕ
calls_by_keys verifier now keys set r = calls_by_keys_read verifier now keys set r (rrsig_of r)

-- ---- as a verdict

abbrev pub verdict_by_mark : Proof → Verdict
verdict_by_mark proof.Secure = Proved
verdict_by_mark proof.Insecure = marks.Insecure
verdict_by_mark proof.Bogus = Failed
verdict_by_mark proof.Indeterminate = Failed

-- what a signature does for its set where this is proved of it
abbrev pub proof_verdict : Option RrsetProofValue → Verdict
proof_verdict found = option_map_or (λ p. verdict_by_mark p.proof) found Failed
