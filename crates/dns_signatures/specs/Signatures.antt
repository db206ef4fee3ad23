-- Which algorithms a verifier that computes supports, and which signatures it accepts (RFC 4035, 5.3.3).
use Rattle.std.specs.Prelude.{ℕ, Bool, true, false, ◌==◌, ◌&&◌, List, if◌then◌else◌}
use Rattle.std.specs.Bool.{beq}
use Rattle.std.specs.List.{list_any}
use Rattle.dns_model.specs.Keys.{VerifierAnswers}
use Rattle.dns_signatures.specs.Ecdsa.{p256_accepts, p384_accepts}
use Rattle.dns_signatures.specs.Rsa.{rsa_accepts}
use Rattle.edwards_curves.specs.Ed25519.{ed25519_accepts}

-- which of the algorithms that can be computed are used: RSA with SHA-1 (5), the same for zones with NSEC3 (7), with SHA-256 (8) and
-- with SHA-512 (10), ECDSA on P-256 (13) and on P-384 (14), and Ed25519 (15)
pub record ArithmeticValue : Type 0 where
  pub rsa_sha1 : Bool
  pub rsa_sha1_nsec3 : Bool
  pub rsa_sha256 : Bool
  pub rsa_sha512 : Bool
  pub p256 : Bool
  pub p384 : Bool
  pub ed25519 : Bool

-- all of them
abbrev pub all_used : ArithmeticValue
all_used = record { rsa_sha1 = true; rsa_sha1_nsec3 = true; rsa_sha256 = true; rsa_sha512 = true; p256 = true; p384 = true; ed25519 = true }

-- all but those with SHA-1
abbrev pub without_sha1 : ArithmeticValue → ArithmeticValue
without_sha1 used = record used { rsa_sha1 = false; rsa_sha1_nsec3 = false }

abbrev pub is_among : List ℕ → ℕ → Bool
is_among algorithms algorithm = list_any (λ a. a == algorithm) algorithms

-- those that are among the algorithms
abbrev pub limited_to : ArithmeticValue → List ℕ → ArithmeticValue
limited_to used algorithms = record {
  rsa_sha1 = used.rsa_sha1 && is_among algorithms 5;
  rsa_sha1_nsec3 = used.rsa_sha1_nsec3 && is_among algorithms 7;
  rsa_sha256 = used.rsa_sha256 && is_among algorithms 8;
  rsa_sha512 = used.rsa_sha512 && is_among algorithms 10;
  p256 = used.p256 && is_among algorithms 13;
  p384 = used.p384 && is_among algorithms 14;
  ed25519 = used.ed25519 && is_among algorithms 15;
}

-- the algorithm, by its number in the registry, is used
abbrev pub uses : ArithmeticValue → ℕ → Bool
uses used algorithm =
    if algorithm == 5 then used.rsa_sha1
    else if algorithm == 7 then used.rsa_sha1_nsec3
    else if algorithm == 8 then used.rsa_sha256
    else if algorithm == 10 then used.rsa_sha512
    else if algorithm == 13 then used.p256
    else if algorithm == 14 then used.p384
    else if algorithm == 15 then used.ed25519
    else false

-- the signature over the bytes is the key's, by the algorithm's arithmetic
abbrev pub accepts_by : ℕ → List ℕ → List ℕ → List ℕ → Bool
accepts_by algorithm key bytes signature =
    if algorithm == 13 then p256_accepts key bytes signature
    else (if algorithm == 14 then p384_accepts key bytes signature
    else (if algorithm == 15 then ed25519_accepts key bytes signature
    else rsa_accepts algorithm key bytes signature))

-- an algorithm that isn't used is neither supported nor accepted
abbrev pub arithmetic_answers : ArithmeticValue → VerifierAnswers
arithmetic_answers used = record {
  supports = uses used;
  accepts = λ algorithm key bytes signature. uses used algorithm && accepts_by algorithm key bytes signature;
}

-- both use the same algorithms
abbrev pub is_same : ArithmeticValue → ArithmeticValue → Bool
is_same one other =
    beq one.rsa_sha1 other.rsa_sha1
    && (beq one.rsa_sha1_nsec3 other.rsa_sha1_nsec3
    && (beq one.rsa_sha256 other.rsa_sha256
    && (beq one.rsa_sha512 other.rsa_sha512
    && (beq one.p256 other.p256
    && (beq one.p384 other.p384 && beq one.ed25519 other.ed25519)))))
