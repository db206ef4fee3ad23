-- For private functions of this crate only: pairs of hexadecimal digits as bytes.
use Rattle.std.specs.Prelude.{ℕ, ◌+◌, ◌*◌, List, [], ◌∷◌, Option, None, Some}
use Rattle.hex.specs.Hex.{hex_digit_value}

abbrev pub with_byte : ℕ → Option (List ℕ) → Option (List ℕ)
with_byte byte None = None
with_byte byte (Some bytes) = Some (byte ∷ bytes)

-- the byte of two digits in front, if both are digits
abbrev pub with_pair : Option ℕ → Option ℕ → Option (List ℕ) → Option (List ℕ)
with_pair (Some high) (Some low) bytes = with_byte (high * 16 + low) bytes
with_pair _ _ bytes = None

-- the bytes of pairs of digits, the high four bits first
unfoldable pub pairs_in : List ℕ → Option (List ℕ)
pairs_in [] = Some []
pairs_in (digit ∷ []) = None
pairs_in (high ∷ low ∷ rest) = with_pair (hex_digit_value high) (hex_digit_value low) (pairs_in rest)
