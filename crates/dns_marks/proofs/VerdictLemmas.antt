-- Keys that have a mark each, key sets that have one mark, and the signature that decides on a set.
use Rattle.std.proofs.Common.{◌≡◌, ℕ, ◌+◌, Bool, true, false, ◌&&◌, ◌||◌, cond, List, [], ◌∷◌, map, Option, None, Some, refl, sym, ap, ◌∙◌}
use Rattle.std.specs.Prelude.{if◌then◌else◌, is_some, slice_get}
use Rattle.std.specs.Option.{option_map, option_map_or, option_or}
use Rattle.std.specs.List.{AllByRecursion, find, list_any, list_all, position, position_from}
use Rattle.std.proofs.lemmas.Iterator.Adapters.{position_from-zero}
use Rattle.dns_model.specs.declared.proof.Proof.{Proof}
use Rattle.dns_model.specs.declared.proof.Proof.TheVariants as proof
use Rattle.dns_model.specs.Records.{Rr, RrSet}
use Rattle.dns_model.specs.Keys.{VerifierAnswers, AnchorValue}
use Rattle.dns_model.specs.Chains.{judge}
use Rattle.dns_model.specs.SoundAnswers.{is_secure}
use Rattle.dns_rules.specs.Validity.{is_good_by}
use Rattle.dns_rules.specs.Marks.{Verdict, Proved, Failed, is_proved, shows_insecure, by_keys, Mark, mark_at, set_mark}
use Rattle.dns_rules.specs.Marks as marks
use Rattle.dns_rules.specs.Derivation.{proof_eq}
use Rattle.dns_rules.specs.ProofErrors.{RrsetProofValue}
use Rattle.dns_marks.specs.SetMarks.{first_proof, deciding_proof}
use Rattle.dns_cache.specs.Proofs.{proved_by, excused}
use Rattle.dns_marks.specs.SignatureKeys.{judge_at, is_proving, are_insecure, proof_by_keys, verdict_by_mark, proof_verdict}

-- all keys have this mark
abbrev pub HaveMark : Proof → List Rr → Type 0
HaveMark mark keys = AllByRecursion (λ key. key.proof ≡ mark) keys

-- anchors play no part
good_anyhow : (verifier : VerifierAnswers) (anchors : List AnchorValue) (now : ℕ) (set : RrSet) (r key : Rr)
    → is_good_by (judge_at verifier now) set r key ≡ is_good_by (judge verifier anchors now) set r key
unfolding is_good_by
good_anyhow verifier anchors now set r key = refl

found_step : (b : Bool) (key : Rr) (rest : Bool) (found : Option Rr) → rest ≡ is_some found
    → (b || rest) ≡ is_some (cond b (Some key) found)
found_step true key rest found h = refl
found_step false key rest found h = h

-- of Secure keys one proves the set where it is found
any_secure : (verifier : VerifierAnswers) (anchors : List AnchorValue) (now : ℕ) (set : RrSet) (r : Rr) (keys : List Rr)
    → HaveMark proof.Secure keys
    → list_any (is_proving verifier now set r) keys ≡ is_some (find (is_good_by (judge verifier anchors now) set r) keys)
any_secure verifier anchors now set r [] h = refl
any_secure verifier anchors now set r (key ∷ keys) h =
    ap (λ m. (is_secure m && is_good_by (judge_at verifier now) set r key) || list_any (is_proving verifier now set r) keys) h.0
    ∙ ap (λ b. b || list_any (is_proving verifier now set r) keys) (good_anyhow verifier anchors now set r key)
    ∙ found_step (is_good_by (judge verifier anchors now) set r key) key (list_any (is_proving verifier now set r) keys)
    (find (is_good_by (judge verifier anchors now) set r) keys) (any_secure verifier anchors now set r keys h.1)

-- others prove nothing
none_proves : (verifier : VerifierAnswers) (now : ℕ) (set : RrSet) (r : Rr) (mark : Proof) → is_secure mark ≡ false
    → (keys : List Rr) → HaveMark mark keys
    → list_any (is_proving verifier now set r) keys ≡ false
none_proves verifier now set r mark other [] h = refl
none_proves verifier now set r mark other (key ∷ keys) h =
    ap (λ b. (b && is_good_by (judge_at verifier now) set r key) || list_any (is_proving verifier now set r) keys)
    (ap is_secure h.0 ∙ other)
    ∙ none_proves verifier now set r mark other keys h.1

-- Insecure keys are all Insecure
all_insecure : (keys : List Rr) → HaveMark proof.Insecure keys → list_all (λ key. proof_eq key.proof proof.Insecure) keys ≡ true
all_insecure [] h = refl
all_insecure (key ∷ keys) h =
    ap (λ m. proof_eq m proof.Insecure && list_all (λ k. proof_eq k.proof proof.Insecure) keys) h.0 ∙ all_insecure keys h.1

-- and no others are
not_insecure : (mark : Proof) → proof_eq mark proof.Insecure ≡ false → (keys : List Rr) → HaveMark mark keys → are_insecure keys ≡ false
not_insecure mark other [] h = refl
not_insecure mark other (key ∷ keys) h =
    ap (λ b. b && list_all (λ k. proof_eq k.proof proof.Insecure) keys) (ap (λ m. proof_eq m proof.Insecure) h.0 ∙ other)

by_found : (found : Option Rr) (proved : RrsetProofValue) → proved.proof ≡ proof.Secure
    → proof_verdict (if is_some found then Some proved else None) ≡ option_map_or (λ key. Proved) found Failed
by_found None proved h = refl
by_found (Some key) proved h = ap verdict_by_mark h

neither : (verifier : VerifierAnswers) (now : ℕ) (set : RrSet) (r : Rr) (mark : Proof) (keys : List Rr) → is_secure mark ≡ false
    → proof_eq mark proof.Insecure ≡ false
    → HaveMark mark keys → proof_by_keys verifier now set r keys ≡ None
neither verifier now set r mark keys insecure other h =
    ap (λ b. if b then Some (proved_by now set r None) else if are_insecure keys then Some excused
    else None) (none_proves verifier now set r mark insecure keys h)
    ∙ ap (λ b. if b then Some excused else None) (not_insecure mark other keys h)

first_of : (keys : List Rr) → proof_verdict (if is_some (slice_get keys 0) && true then Some excused else None)
    ≡ option_map_or (λ key. marks.Insecure) (slice_get keys 0) Failed
first_of [] = refl
first_of (key ∷ keys) = refl

-- by keys that all have one mark a signature does for its set what it does by a key set of that mark
pub by_one_mark : (verifier : VerifierAnswers) (anchors : List AnchorValue) (now : ℕ) (set : RrSet) (r : Rr) (mark : Proof)
    (keys : List Rr) → HaveMark mark keys
    → proof_verdict (proof_by_keys verifier now set r keys) ≡ by_keys (judge verifier anchors now) set r mark keys
by_one_mark verifier anchors now set r proof.Secure keys h =
    ap (λ b. proof_verdict (if b then Some (proved_by now set r None) else if are_insecure keys then Some excused else None))
    (any_secure verifier anchors now set r keys h)
    ∙ ap (λ b. proof_verdict (if is_some (find (is_good_by (judge verifier anchors now) set r) keys) then Some (proved_by now set r None)
    else if b then Some excused else None)) (not_insecure proof.Secure refl keys h)
    ∙ by_found (find (is_good_by (judge verifier anchors now) set r) keys) (proved_by now set r None) refl
by_one_mark verifier anchors now set r proof.Insecure keys h =
    ap (λ b. proof_verdict (if b then Some (proved_by now set r None) else if are_insecure keys then Some excused else None))
    (none_proves verifier now set r proof.Insecure refl keys h)
    ∙ ap (λ b. proof_verdict (if is_some (slice_get keys 0) && b then Some excused else None)) (all_insecure keys h)
    ∙ first_of keys
by_one_mark verifier anchors now set r proof.Bogus keys h = ap proof_verdict (neither verifier now set r proof.Bogus keys refl refl h)
by_one_mark verifier anchors now set r proof.Indeterminate keys h =
    ap proof_verdict (neither verifier now set r proof.Indeterminate keys refl refl h)

-- ---- the signature that decides

-- a mark with the place of its signature
abbrev found_mark : RrsetProofValue → Mark
found_mark p = record { mark = p.proof; sig = p.rrsig_index }

secure_step : (m : Proof) (p : RrsetProofValue) (i : ℕ) (rest : Option RrsetProofValue) (places : Option ℕ) → p.proof ≡ m
    → option_map found_mark rest ≡ option_map (λ n. record { mark = proof.Secure; sig = Some n }) places
    → option_map found_mark (option_or (if proof_eq m proof.Secure then Some (record p { rrsig_index = Some i }) else None) rest)
    ≡ option_map (λ n. record { mark = proof.Secure; sig = Some n }) (cond (is_proved (verdict_by_mark m)) (Some i) places)
secure_step proof.Secure p i rest places is h = ap (λ m. Some (record { mark = m; sig = Some i })) is
secure_step proof.Insecure p i rest places is h = h
secure_step proof.Bogus p i rest places is h = h
secure_step proof.Indeterminate p i rest places is h = h

insecure_step : (m : Proof) (p : RrsetProofValue) (i : ℕ) (rest : Option RrsetProofValue) (places : Option ℕ) → p.proof ≡ m
    → option_map found_mark rest ≡ option_map (λ n. record { mark = proof.Insecure; sig = Some n }) places
    → option_map found_mark (option_or (if proof_eq m proof.Insecure then Some (record p { rrsig_index = Some i }) else None) rest)
    ≡ option_map (λ n. record { mark = proof.Insecure; sig = Some n }) (cond (shows_insecure (verdict_by_mark m)) (Some i) places)
insecure_step proof.Secure p i rest places is h = h
insecure_step proof.Insecure p i rest places is h = ap (λ m. Some (record { mark = m; sig = Some i })) is
insecure_step proof.Bogus p i rest places is h = h
insecure_step proof.Indeterminate p i rest places is h = h

secure_places : (i : ℕ) (proofs : List (Option RrsetProofValue))
    → option_map found_mark (first_proof proof.Secure i proofs)
    ≡ option_map (λ n. record { mark = proof.Secure; sig = Some n }) (position_from is_proved i (map proof_verdict proofs))
unfolding first_proof
secure_places i [] = refl
secure_places i (None ∷ more) = secure_places (i + 1) more
secure_places i (Some p ∷ more) =
    secure_step p.proof p i (first_proof proof.Secure (i + 1) more) (position_from is_proved (i + 1) (map proof_verdict more))
    refl (secure_places (i + 1) more)

insecure_places : (i : ℕ) (proofs : List (Option RrsetProofValue))
    → option_map found_mark (first_proof proof.Insecure i proofs)
    ≡ option_map (λ n. record { mark = proof.Insecure; sig = Some n }) (position_from shows_insecure i (map proof_verdict proofs))
unfolding first_proof
insecure_places i [] = refl
insecure_places i (None ∷ more) = insecure_places (i + 1) more
insecure_places i (Some p ∷ more) =
    insecure_step p.proof p i (first_proof proof.Insecure (i + 1) more) (position_from shows_insecure (i + 1) (map proof_verdict more))
    refl (insecure_places (i + 1) more)

deciding_case : (s e : Option RrsetProofValue) (proved excused : Option ℕ)
    → option_map found_mark s ≡ option_map (λ n. record { mark = proof.Secure; sig = Some n }) proved
    → option_map found_mark e ≡ option_map (λ n. record { mark = proof.Insecure; sig = Some n }) excused
    → option_map_or found_mark (option_or s e) (record { mark = proof.Bogus; sig = None }) ≡ mark_at proved excused
deciding_case None None None None is_s is_e = refl
deciding_case None None None (Some n) is_s is_e = cc
deciding_case None (Some q) None None is_s is_e = cc
deciding_case None (Some q) None (Some n) is_s is_e = ap (λ o. option_map_or (λ m. m) o (found_mark q)) is_e
deciding_case None e (Some n) excused is_s is_e = cc
deciding_case (Some p) e None excused is_s is_e = cc
deciding_case (Some p) e (Some n) excused is_s is_e = ap (λ o. option_map_or (λ m. m) o (found_mark p)) is_s

marks_from : (verdicts : List Verdict)
    → set_mark verdicts ≡ mark_at (position_from is_proved 0 verdicts) (position_from shows_insecure 0 verdicts)
marks_from [] = refl
marks_from (v ∷ vs) =
    ap (λ o. mark_at o (position shows_insecure (v ∷ vs))) (position_from-zero is_proved (v ∷ vs))
    ∙ ap (mark_at (position_from is_proved 0 (v ∷ vs))) (position_from-zero shows_insecure (v ∷ vs))

-- the mark and the place are those that the verdicts of the signatures give
pub by_verdicts : (proofs : List (Option RrsetProofValue))
    → option_map_or found_mark (deciding_proof proofs) (record { mark = proof.Bogus; sig = None }) ≡ set_mark (map proof_verdict proofs)
by_verdicts proofs =
    deciding_case (first_proof proof.Secure 0 proofs) (first_proof proof.Insecure 0 proofs)
    (position_from is_proved 0 (map proof_verdict proofs))
    (position_from shows_insecure 0 (map proof_verdict proofs)) (secure_places 0 proofs) (insecure_places 0 proofs)
    ∙ sym (marks_from (map proof_verdict proofs))
