-- Verifiers that use the same algorithms answer alike.
use Rattle.std.proofs.Common.{◌≡◌, ℕ, Bool, true, ◌&&◌, List, refl, ap, ◌∙◌}
use Rattle.std.specs.Prelude.{IsTrue}
use Rattle.std.specs.Bool.{beq}
use Rattle.std.specs.Cmp.{booleans_Decides}
use Rattle.std.proofs.lemmas.Bool.{and_parts}
use Rattle.dns_model.specs.Keys.{VerifierAnswers}
use Rattle.dns_evidence.specs.Verifiers.{AnswerAlike}
use Rattle.dns_signatures.specs.Signatures.{ArithmeticValue, arithmetic_answers, is_same}

abbrev made : Bool → Bool → Bool → Bool → Bool → Bool → Bool → ArithmeticValue
made a b c d e f g =
    record { rsa_sha1 = a; rsa_sha1_nsec3 = b; rsa_sha256 = c; rsa_sha512 = d; p256 = e; p384 = f; ed25519 = g }

equal : (one other : Bool) → beq one other ≡ true → one ≡ other
equal one other h = (booleans_Decides one other).0 h

-- verifiers that use the same algorithms are equal
same_value : (x y : ArithmeticValue) → is_same x y ≡ true → x ≡ y
same_value x y h =
    let p = and_parts (beq x.rsa_sha1 y.rsa_sha1) _ h in
    let q = and_parts (beq x.rsa_sha1_nsec3 y.rsa_sha1_nsec3) _ p.1 in
    let r = and_parts (beq x.rsa_sha256 y.rsa_sha256) _ q.1 in
    let s = and_parts (beq x.rsa_sha512 y.rsa_sha512) _ r.1 in
    let t = and_parts (beq x.p256 y.p256) _ s.1 in
    let u = and_parts (beq x.p384 y.p384) (beq x.ed25519 y.ed25519) t.1 in
    ap (λ a. made a x.rsa_sha1_nsec3 x.rsa_sha256 x.rsa_sha512 x.p256 x.p384 x.ed25519) (equal _ _ p.0)
    ∙ ap (λ b. made y.rsa_sha1 b x.rsa_sha256 x.rsa_sha512 x.p256 x.p384 x.ed25519) (equal _ _ q.0)
    ∙ ap (λ c. made y.rsa_sha1 y.rsa_sha1_nsec3 c x.rsa_sha512 x.p256 x.p384 x.ed25519) (equal _ _ r.0)
    ∙ ap (λ d. made y.rsa_sha1 y.rsa_sha1_nsec3 y.rsa_sha256 d x.p256 x.p384 x.ed25519) (equal _ _ s.0)
    ∙ ap (λ e. made y.rsa_sha1 y.rsa_sha1_nsec3 y.rsa_sha256 y.rsa_sha512 e x.p384 x.ed25519) (equal _ _ t.0)
    ∙ ap (λ f. made y.rsa_sha1 y.rsa_sha1_nsec3 y.rsa_sha256 y.rsa_sha512 y.p256 f x.ed25519) (equal _ _ u.0)
    ∙ ap (λ g. made y.rsa_sha1 y.rsa_sha1_nsec3 y.rsa_sha256 y.rsa_sha512 y.p256 y.p384 g) (equal _ _ u.1)

pub same_alike : (one other : ArithmeticValue) → is_same one other ≡ true
    → AnswerAlike (arithmetic_answers one) (arithmetic_answers other)
same_alike one other h = record {
  supports = λ algorithm. ap (λ (v : ArithmeticValue). (arithmetic_answers v).supports algorithm) (same_value one other h);
  accepts = λ algorithm key bytes signature.
      ap (λ (v : ArithmeticValue). (arithmetic_answers v).accepts algorithm key bytes signature) (same_value one other h);
}
