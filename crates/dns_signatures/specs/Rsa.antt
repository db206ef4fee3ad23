-- Signatures by RSA: keys (RFC 3110, 2), algorithms (RFC 3110, 3; RFC 5155, 2; RFC 5702, 2 and 3), and what a signature is
-- (RFC 8017, 8.2.2 and 9.2).
use Rattle.std.specs.Prelude.{ℕ, Bool, true, false, not, List, [], ◌∷◌, ◌++◌, ◌+◌, ◌-◌, ◌*◌, ◌%◌, ◌^◌, ◌==◌, ◌&&◌, ◌||◌, Option, Some, None, if◌then◌else◌, nat_lt, nat_le, length, take, drop, replicate, slice_index}
use Rattle.std.specs.Option.{option_map_or}
use Rattle.big_numbers.specs.Limbs.{number}
use Rattle.sha1.specs.Sha1.{sha1}
use Rattle.sha2.specs.Sha256.{sha256}
use Rattle.sha2.specs.Sha512.{sha512}

-- the exponent's and the modulus's bytes
pub record RsaKeyValue : Type 0 where
  pub exponent : List ℕ
  pub modulus : List ℕ

-- so many bytes of the exponent, and the modulus
abbrev pub key_after : ℕ → List ℕ → Option RsaKeyValue
key_after size rest = if nat_le size (length rest) then Some (record { exponent = take size rest; modulus = drop size rest }) else None

abbrev pub long_key : List ℕ → Option RsaKeyValue
long_key (high ∷ low ∷ rest) = key_after (high * 256 + low) rest
long_key _ = None

-- the exponent's length is in one byte, or after a zero in two
abbrev pub key_in : List ℕ → Option RsaKeyValue
key_in [] = None
key_in (size ∷ rest) = if size == 0 then long_key rest else key_after size rest

-- what a digest by SHA-1, SHA-256 and SHA-512 begins with in DER
abbrev pub sha1_prefix : List ℕ
sha1_prefix = 48 ∷ 33 ∷ 48 ∷ 9 ∷ 6 ∷ 5 ∷ 43 ∷ 14 ∷ 3 ∷ 2 ∷ 26 ∷ 5 ∷ 0 ∷ 4 ∷ 20 ∷ []

abbrev pub sha256_prefix : List ℕ
sha256_prefix = 48 ∷ 49 ∷ 48 ∷ 13 ∷ 6 ∷ 9 ∷ 96 ∷ 134 ∷ 72 ∷ 1 ∷ 101 ∷ 3 ∷ 4 ∷ 2 ∷ 1 ∷ 5 ∷ 0 ∷ 4 ∷ 32 ∷ []

abbrev pub sha512_prefix : List ℕ
sha512_prefix = 48 ∷ 81 ∷ 48 ∷ 13 ∷ 6 ∷ 9 ∷ 96 ∷ 134 ∷ 72 ∷ 1 ∷ 101 ∷ 3 ∷ 4 ∷ 2 ∷ 3 ∷ 5 ∷ 0 ∷ 4 ∷ 64 ∷ []

-- the algorithms: RSA/SHA-1, the same with NSEC3, RSA/SHA-256 and RSA/SHA-512
abbrev pub is_rsa : ℕ → Bool
is_rsa algorithm = (algorithm == 5) || ((algorithm == 7) || ((algorithm == 8) || (algorithm == 10)))

-- the digest's name and the digest (RFC 8017, 9.2, step 2)
abbrev pub digest_info : ℕ → List ℕ → List ℕ
digest_info algorithm bytes =
    if algorithm == 8 then sha256_prefix ++ sha256 bytes
    else (if algorithm == 10 then sha512_prefix ++ sha512 bytes
    else sha1_prefix ++ sha1 bytes)

-- the shortest modulus, in bytes: 512 bits, and 1,024 for RSA/SHA-512
abbrev pub least_size : ℕ → ℕ
least_size algorithm = if algorithm == 10 then 128 else 64

-- the greatest exponent has 34 bits: 2^32 + 1 is in use, and a greater one only makes verifying dearer
abbrev pub most_exponent : ℕ
most_exponent = 17179869183

-- neither number begins with a zero (RFC 3110, 2); the exponent has at most 34 bits, and the modulus at least so many bytes and at
-- most 512, which are 4,096 bits
abbrev pub is_good_key : ℕ → RsaKeyValue → Bool
is_good_key least key =
    nat_lt 0 (slice_index key.exponent 0)
    && (nat_le (length key.exponent) 5 && (nat_le (number key.exponent) most_exponent
    && (nat_lt 0 (slice_index key.modulus 0)
    && (nat_le least (length key.modulus) && nat_le (length key.modulus) 512))))

-- so many bytes: 0, 1, bytes of 255, 0 and the digest (RFC 8017, 9.2, step 5)
abbrev pub padded : ℕ → List ℕ → List ℕ
padded size info = ((0 ∷ 1 ∷ []) ++ replicate (size - 3 - length info) 255) ++ (0 ∷ info)

-- the signature is below the modulus, and its power is the number that the bytes write
abbrev pub opens_to : List ℕ → RsaKeyValue → List ℕ → Bool
opens_to signature key expected =
    nat_lt (number signature) (number key.modulus)
    && ((number signature ^ number key.exponent) % number key.modulus == number expected)

abbrev pub key_accepts : ℕ → List ℕ → List ℕ → RsaKeyValue → Bool
key_accepts algorithm bytes signature key =
    is_good_key (least_size algorithm) key
    && ((length signature == length key.modulus)
    && opens_to signature key (padded (length key.modulus) (digest_info algorithm bytes)))

-- the signature over the bytes is the key's, under the algorithm
abbrev pub rsa_accepts : ℕ → List ℕ → List ℕ → List ℕ → Bool
rsa_accepts algorithm key bytes signature =
    is_rsa algorithm && option_map_or (key_accepts algorithm bytes signature) (key_in key) false
