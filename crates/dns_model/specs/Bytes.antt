-- Numbers as bytes, the highest first (RFC 1035, 2.3.2), and as flags.
use Rattle.std.specs.Prelude.{ℕ, Bool, not, ◌==◌, bit_and, nat_lt, ◌+◌, ◌*◌, ◌/◌, ◌%◌, List, [], ◌∷◌, slice_index}
use Rattle.std.specs.List.{list_all}

-- a flag of a number is set; the flag is the number in which it alone is set
abbrev pub has_flag : ℕ → ℕ → Bool
has_flag flags flag = not (bit_and flags flag == 0)

-- numbers below 256
abbrev pub is_bytes : List ℕ → Bool
is_bytes bytes = list_all (λ b. nat_lt b 256) bytes

-- the number in the two bytes at a place
abbrev pub u16_at : List ℕ → ℕ → ℕ
u16_at bytes place = slice_index bytes place * 256 + slice_index bytes (place + 1)

-- the number in the four bytes at a place
abbrev pub u32_at : List ℕ → ℕ → ℕ
u32_at bytes place = u16_at bytes place * 65536 + u16_at bytes (place + 2)

-- a number below 2^16 as two bytes
abbrev pub u16_bytes : ℕ → List ℕ
u16_bytes n = n / 256 ∷ n % 256 ∷ []

-- a number below 2^32 as four bytes
abbrev pub u32_bytes : ℕ → List ℕ
u32_bytes n = n / 16777216 ∷ n / 65536 % 256 ∷ n / 256 % 256 ∷ n % 256 ∷ []
