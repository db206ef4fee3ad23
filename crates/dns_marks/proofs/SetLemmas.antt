-- The signature that decides on a set, found one after the other.
use Rattle.std.proofs.Common.{◌≡◌, ℕ, ◌+◌, ◌<◌, ◌≤◌, Bool, true, false, if◌then◌else◌, List, [], ◌∷◌, length, map, drop, Option, None, Some, refl, sym, ap, ◌∙◌, ◌*◌, arith}
use Rattle.std.specs.Prelude.{slice_index_or, slice_get}
use Rattle.std.specs.Option.{option_or}
use Rattle.std.specs.List.{zip, filter_map, cons_option}
use Rattle.std.proofs.lemmas.List.{drop_more, drop_all}
use Rattle.dns_model.specs.declared.proof.Proof.{Proof}
use Rattle.dns_model.specs.declared.proof.Proof.TheVariants.{Secure, Insecure}
use Rattle.dns_model.specs.Keys.{VerifierAnswers}
use Rattle.dns_model.specs.Records.{Rr, RrSet, Question}
use Rattle.dns_rules.specs.Derivation.{proof_eq}
use Rattle.dns_rules.specs.ProofErrors.{RrsetProofValue}
use Rattle.dns_marks.specs.declared.set_mark.KeyAnswer.{KeyAnswer}
use Rattle.dns_marks.specs.SetMarks.{answer_proof, answer_proofs, answer_calls, is_secure_proof, set_calls, proof_at, first_proof, deciding_proof, failed_ask}

-- what the signatures from a place on prove
abbrev pub proofs_from : VerifierAnswers → ℕ → RrSet → List Rr → List KeyAnswer → ℕ → List (Option RrsetProofValue)
proofs_from verifier now set rs answers i = answer_proofs verifier now set (drop i rs) (drop i answers)

proofs_more : (verifier : VerifierAnswers) (now : ℕ) (set : RrSet) (rs : List Rr) (answers : List KeyAnswer) (i : ℕ) (r : Rr)
    (answer : KeyAnswer)
    → i < length rs → i < length answers → r ≡ slice_index_or rs i r → answer ≡ slice_index_or answers i answer
    → proofs_from verifier now set rs answers i ≡ answer_proof verifier now set r answer ∷ proofs_from verifier now set rs answers (i + 1)
proofs_more verifier now set rs answers i r answer in_rs in_answers at_rs at_answers =
    ap (λ xs. answer_proofs verifier now set xs (drop i answers)) (drop_more rs i r in_rs ∙ ap (λ x. x ∷ drop (i + 1) rs) (sym at_rs))
    ∙ ap (answer_proofs verifier now set (r ∷ drop (i + 1) rs)) (drop_more answers i answer in_answers
    ∙ ap (λ x. x ∷ drop (i + 1) answers) (sym at_answers))

no_answer : (rs : List Rr) → zip {X = KeyAnswer} rs [] ≡ []
no_answer [] = refl
no_answer (r ∷ rs) = refl

proofs_end : (verifier : VerifierAnswers) (now : ℕ) (set : RrSet) (rs : List Rr) (answers : List KeyAnswer) (i : ℕ) → length answers ≤ i
    → proofs_from verifier now set rs answers i ≡ []
proofs_end verifier now set rs answers i h =
    ap (answer_proofs verifier now set (drop i rs)) (drop_all i answers h)
    ∙ ap (map (λ p. answer_proof verifier now set p.0 p.1)) (no_answer (drop i rs))

-- ---- how often the verifier is asked

-- by the signatures from a place on
abbrev pub calls_from : VerifierAnswers → ℕ → RrSet → List Rr → List KeyAnswer → ℕ → ℕ
calls_from verifier now set rs answers i = set_calls verifier now set (zip (drop i rs) (drop i answers))

calls_step : (verifier : VerifierAnswers) (now : ℕ) (set : RrSet) (r : Rr) (answer : KeyAnswer) (more : List (Rr × KeyAnswer))
    → set_calls verifier now set ((r, answer) ∷ more)
    ≡ answer_calls verifier now set r answer + (if is_secure_proof (answer_proof verifier now set r answer) then 0
    else set_calls verifier now set more)
unfolding set_calls
calls_step verifier now set r answer more = refl

calls_none : (verifier : VerifierAnswers) (now : ℕ) (set : RrSet) → set_calls verifier now set [] ≡ 0
unfolding set_calls
calls_none verifier now set = refl

calls_more : (verifier : VerifierAnswers) (now : ℕ) (set : RrSet) (rs : List Rr) (answers : List KeyAnswer) (i : ℕ) (r : Rr)
    (answer : KeyAnswer)
    → i < length rs → i < length answers → r ≡ slice_index_or rs i r → answer ≡ slice_index_or answers i answer
    → calls_from verifier now set rs answers i
    ≡ answer_calls verifier now set r answer
    + (if is_secure_proof (answer_proof verifier now set r answer) then 0 else calls_from verifier now set rs answers (i + 1))
calls_more verifier now set rs answers i r answer in_rs in_answers at_rs at_answers =
    ap (λ xs. set_calls verifier now set (zip xs (drop i answers))) (drop_more rs i r in_rs ∙ ap (λ x. x ∷ drop (i + 1) rs) (sym at_rs))
    ∙ ap (λ xs. set_calls verifier now set (zip (r ∷ drop (i + 1) rs) xs))
    (drop_more answers i answer in_answers ∙ ap (λ x. x ∷ drop (i + 1) answers) (sym at_answers))
    ∙ calls_step verifier now set r answer (zip (drop (i + 1) rs) (drop (i + 1) answers))

calls_end : (verifier : VerifierAnswers) (now : ℕ) (set : RrSet) (rs : List Rr) (answers : List KeyAnswer) (i : ℕ) → length answers ≤ i
    → calls_from verifier now set rs answers i ≡ 0
calls_end verifier now set rs answers i h =
    ap (λ xs. set_calls verifier now set (zip (drop i rs) xs)) (drop_all i answers h)
    ∙ ap (set_calls verifier now set) (no_answer (drop i rs)) ∙ calls_none verifier now set

secure_by : (place : ℕ) (found : RrsetProofValue) (secure : Bool) (proved : RrsetProofValue)
    → (if secure then Some (record found { rrsig_index = Some place }) else None) ≡ Some proved → secure ≡ true
secure_by place found true proved h = refl
secure_by place found false proved h = cc

-- a proof that counts as the Secure one is Secure
secure_at : (place : ℕ) (found : Option RrsetProofValue) (proved : RrsetProofValue) → proof_at Secure place found ≡ Some proved
    → is_secure_proof found ≡ true
secure_at place None proved h = cc
secure_at place (Some found) proved h = secure_by place found (proof_eq found.proof Secure) proved h

not_secure_by : (place : ℕ) (found : RrsetProofValue) (secure : Bool)
    → (if secure then Some (record found { rrsig_index = Some place }) else None) ≡ None → secure ≡ false
not_secure_by place found true h = cc
not_secure_by place found false h = refl

-- another isn't
not_secure_at : (place : ℕ) (found : Option RrsetProofValue) → proof_at Secure place found ≡ None → is_secure_proof found ≡ false
not_secure_at place None h = refl
not_secure_at place (Some found) h = not_secure_by place found (proof_eq found.proof Secure) h

-- ---- the first proof of a mark

first_more : (mark : Proof) (i : ℕ) (found : Option RrsetProofValue) (more : List (Option RrsetProofValue))
    → first_proof mark i (found ∷ more) ≡ option_or (proof_at mark i found) (first_proof mark (i + 1) more)
unfolding first_proof
first_more mark i found more = refl

first_none : (mark : Proof) (i : ℕ) → first_proof mark i [] ≡ None
unfolding first_proof
first_none mark i = refl

or_none : {X : Type 0} (o : Option X) → option_or o None ≡ o
or_none None = refl
or_none (Some x) = refl

or_assoc : {X : Type 0} (a b c : Option X) → option_or (option_or a b) c ≡ option_or a (option_or b c)
or_assoc None b c = refl
or_assoc (Some x) b c = refl

-- no signature so far is Secure, the first Insecure one is known, and the calls so far are counted, two for each at the most
pub record Sought (verifier : VerifierAnswers) (now : ℕ) (set : RrSet) (rs : List Rr) (answers : List KeyAnswer) (i : ℕ)
    (excuse : Option RrsetProofValue) (before steps : ℕ) : Type 0 where
  pub secure : first_proof Secure i (proofs_from verifier now set rs answers i)
      ≡ first_proof Secure 0 (answer_proofs verifier now set rs answers)
  pub insecure : option_or excuse (first_proof Insecure i (proofs_from verifier now set rs answers i))
      ≡ first_proof Insecure 0 (answer_proofs verifier now set rs answers)
  pub spent : steps ≤ before + 2 * i
  pub counted : steps + calls_from verifier now set rs answers i ≡ before + set_calls verifier now set (zip rs answers)

pub sought_none : (verifier : VerifierAnswers) (now : ℕ) (set : RrSet) (rs : List Rr) (answers : List KeyAnswer)
    (excuse : Option RrsetProofValue) (before : ℕ)
    → excuse ≡ None → Sought verifier now set rs answers 0 excuse before before
sought_none verifier now set rs answers excuse before none =
    record {
      secure = refl;
      insecure = ap (λ o. option_or o (first_proof Insecure 0 (answer_proofs verifier now set rs answers))) none;
      spent = omega arith;
      counted = refl;
    }

-- a signature that is Secure decides
pub sought_here : (verifier : VerifierAnswers) (now : ℕ) (set : RrSet) (rs : List Rr) (answers : List KeyAnswer) (i : ℕ)
    (excuse : Option RrsetProofValue)
    (before steps : ℕ) (r : Rr) (answer : KeyAnswer) (proved : RrsetProofValue)
    → Sought verifier now set rs answers i excuse before steps → i < length answers → length answers ≡ length rs
    → r ≡ slice_index_or rs i r → answer ≡ slice_index_or answers i answer
    → proof_at Secure i (answer_proof verifier now set r answer) ≡ Some proved
    → Some proved ≡ deciding_proof (answer_proofs verifier now set rs answers)
sought_here verifier now set rs answers i excuse before steps r answer proved s in_answers same at_rs at_answers is =
    let in_rs : i < length rs = omega (arith, in_answers, same) in
    sym (ap (λ o. option_or o (first_proof Insecure 0 (answer_proofs verifier now set rs answers)))
    (sym s.secure ∙ ap (first_proof Secure i) (proofs_more verifier now set rs answers i r answer in_rs in_answers at_rs at_answers)
    ∙ first_more Secure i (answer_proof verifier now set r answer) (proofs_from verifier now set rs answers (i + 1))
    ∙ ap (λ o. option_or o (first_proof Secure (i + 1) (proofs_from verifier now set rs answers (i + 1)))) is))

-- another is passed over
pub sought_more : (verifier : VerifierAnswers) (now : ℕ) (set : RrSet) (rs : List Rr) (answers : List KeyAnswer) (i : ℕ)
    (excuse after : Option RrsetProofValue)
    (before steps later : ℕ) (r : Rr) (answer : KeyAnswer) → Sought verifier now set rs answers i excuse before steps
    → i < length answers → length answers ≡ length rs
    → r ≡ slice_index_or rs i r → answer ≡ slice_index_or answers i answer
    → proof_at Secure i (answer_proof verifier now set r answer) ≡ None
    → after ≡ option_or excuse (proof_at Insecure i (answer_proof verifier now set r answer)) → later ≤ steps + 2
    → later ≡ steps + answer_calls verifier now set r answer → Sought verifier now set rs answers (i + 1) after before later
sought_more verifier now set rs answers i excuse after before steps later r answer s in_answers same at_rs at_answers none is two calls =
    let in_rs : i < length rs = omega (arith, in_answers, same) in
    let found = answer_proof verifier now set r answer in
    let more = proofs_from verifier now set rs answers (i + 1) in
    let here = proofs_more verifier now set rs answers i r answer in_rs in_answers at_rs at_answers in
    record {
      secure = sym (ap (first_proof Secure i) here ∙ first_more Secure i found more
          ∙ ap (λ o. option_or o (first_proof Secure (i + 1) more)) none) ∙ s.secure;
      insecure = ap (λ o. option_or o (first_proof Insecure (i + 1) more)) is
          ∙ or_assoc excuse (proof_at Insecure i found) (first_proof Insecure (i + 1) more)
          ∙ ap (option_or excuse) (sym (ap (first_proof Insecure i) here ∙ first_more Insecure i found more))
          ∙ s.insecure;
      spent = let so_far = s.spent in omega (arith, so_far, two);
      counted = let so_far = s.counted in
          let left : calls_from verifier now set rs answers i ≡ answer_calls verifier now set r answer + calls_from verifier
          now set rs answers (i + 1) =
          calls_more verifier now set rs answers i r answer in_rs in_answers at_rs at_answers
          ∙ ap (λ b. answer_calls verifier now set r answer + (if b then 0 else calls_from verifier now set rs answers (i + 1)))
          (not_secure_at i found none) in
          omega (arith, so_far, left, calls);
    }

-- no signature is left
pub sought_end : (verifier : VerifierAnswers) (now : ℕ) (set : RrSet) (rs : List Rr) (answers : List KeyAnswer) (i : ℕ)
    (excuse : Option RrsetProofValue)
    (before steps : ℕ) → Sought verifier now set rs answers i excuse before steps → length answers ≤ i
    → excuse ≡ deciding_proof (answer_proofs verifier now set rs answers)
sought_end verifier now set rs answers i excuse before steps s h =
    let none = proofs_end verifier now set rs answers i h in
    sym (ap (λ o. option_or o (first_proof Insecure 0 (answer_proofs verifier now set rs answers)))
    (sym s.secure ∙ ap (first_proof Secure i) none ∙ first_none Secure i)
    ∙ sym s.insecure ∙ ap (λ ps. option_or excuse (first_proof Insecure i ps)) none ∙ ap (option_or excuse) (first_none Insecure i)
    ∙ or_none excuse)

-- ---- the first ask that failed

-- that of the answers from a place on
abbrev pub failed_from : List KeyAnswer → ℕ → Option Question
failed_from answers i = slice_get (filter_map failed_ask (drop i answers)) 0

failed_step : (answers : List KeyAnswer) (i : ℕ) (answer : KeyAnswer) → i < length answers → answer ≡ slice_index_or answers i answer
    → failed_from answers i ≡ slice_get (cons_option (failed_ask answer) (filter_map failed_ask (drop (i + 1) answers))) 0
failed_step answers i answer h is =
    ap (λ xs. slice_get (filter_map failed_ask xs) 0) (drop_more answers i answer h ∙ ap (λ x. x ∷ drop (i + 1) answers) (sym is))

pub failed_here : (answers : List KeyAnswer) (i : ℕ) (answer : KeyAnswer) (q : Question) → i < length answers
    → answer ≡ slice_index_or answers i answer
    → failed_ask answer ≡ Some q → failed_from answers i ≡ Some q
failed_here answers i answer q h is failed =
    failed_step answers i answer h is ∙ ap (λ o. slice_get (cons_option o (filter_map failed_ask (drop (i + 1) answers))) 0) failed

pub failed_past : (answers : List KeyAnswer) (i : ℕ) (answer : KeyAnswer) → i < length answers → answer ≡ slice_index_or answers i answer
    → failed_ask answer ≡ None → failed_from answers (i + 1) ≡ failed_from answers i
failed_past answers i answer h is none =
    sym (failed_step answers i answer h is ∙ ap (λ o. slice_get (cons_option o (filter_map failed_ask (drop (i + 1) answers))) 0) none)

pub failed_end : (answers : List KeyAnswer) (i : ℕ) → length answers ≤ i → failed_from answers i ≡ None
failed_end answers i h = ap (λ xs. slice_get (filter_map failed_ask xs) 0) (drop_all i answers h)

-- ---- the steps

-- one signature more of eight
pub spent_here : (verifier : VerifierAnswers) (now : ℕ) (set : RrSet) (rs : List Rr) (answers : List KeyAnswer) (i : ℕ)
    (excuse : Option RrsetProofValue)
    (before steps later : ℕ) → Sought verifier now set rs answers i excuse before steps → i < length answers
    → length answers ≡ length rs → length rs ≤ 8
    → later ≤ steps + 2 → later ≤ before + 16
spent_here verifier now set rs answers i excuse before steps later s in_answers same few two =
    let so_far = s.spent in omega (arith, so_far, in_answers, same, few, two)

-- none more
pub spent_end : (verifier : VerifierAnswers) (now : ℕ) (set : RrSet) (rs : List Rr) (answers : List KeyAnswer) (i : ℕ)
    (excuse : Option RrsetProofValue)
    (before steps : ℕ) → Sought verifier now set rs answers i excuse before steps → i ≤ length answers
    → length answers ≡ length rs → length rs ≤ 8
    → steps ≤ before + 16
spent_end verifier now set rs answers i excuse before steps s within same few = let so_far = s.spent in
    omega (arith, so_far, within, same, few)

-- the signature that is Secure is the last that is asked for
pub counted_here : (verifier : VerifierAnswers) (now : ℕ) (set : RrSet) (rs : List Rr) (answers : List KeyAnswer) (i : ℕ)
    (excuse : Option RrsetProofValue)
    (before steps later : ℕ) (r : Rr) (answer : KeyAnswer) (proved : RrsetProofValue)
    → Sought verifier now set rs answers i excuse before steps → i < length answers
    → length answers ≡ length rs → r ≡ slice_index_or rs i r → answer ≡ slice_index_or answers i answer
    → proof_at Secure i (answer_proof verifier now set r answer) ≡ Some proved → later ≡ steps + answer_calls verifier now set r answer
    → later ≡ before + set_calls verifier now set (zip rs answers)
counted_here verifier now set rs answers i excuse before steps later r answer proved s in_answers same at_rs at_answers is calls =
    let in_rs : i < length rs = omega (arith, in_answers, same) in
    let so_far = s.counted in
    let left : calls_from verifier now set rs answers i ≡ answer_calls verifier now set r answer + 0 =
    calls_more verifier now set rs answers i r answer in_rs in_answers at_rs at_answers
    ∙ ap (λ b. answer_calls verifier now set r answer + (if b then 0 else calls_from verifier now set rs answers (i + 1)))
    (secure_at i (answer_proof verifier now set r answer) proved is) in
    omega (arith, so_far, left, calls)

-- where none is, all are asked for
pub counted_end : (verifier : VerifierAnswers) (now : ℕ) (set : RrSet) (rs : List Rr) (answers : List KeyAnswer) (i : ℕ)
    (excuse : Option RrsetProofValue)
    (before steps : ℕ) → Sought verifier now set rs answers i excuse before steps → length answers ≤ i
    → steps ≡ before + set_calls verifier now set (zip rs answers)
counted_end verifier now set rs answers i excuse before steps s h =
    let so_far = s.counted in
    let none = calls_end verifier now set rs answers i h in
    omega (arith, so_far, none)
