-- The bitmap of types (RFC 4034, 4.1.2): a window of 256 types for each upper byte that some have, in rising order: its number, how many
-- bytes of bits there are, and these.
use Rattle.std.specs.Prelude.{ℕ, zero, suc, ◌+◌, ◌*◌, ◌/◌, ◌%◌, Bool, ◌==◌, nat_lt, List, [], ◌∷◌, ◌++◌, if◌then◌else◌}
use Rattle.std.specs.List.{list_any}

-- a type is among these
unfoldable pub has_type : List ℕ → ℕ → Bool
has_type types rtype = list_any (λ t. t == rtype) types

-- 1 where a type is among these
unfoldable pub bit_of : List ℕ → ℕ → ℕ
bit_of types rtype = if has_type types rtype then 1 else 0

-- the byte of eight types, of which the first has the highest bit
unfoldable pub octet_of : List ℕ → ℕ → ℕ
octet_of types first =
    bit_of types first * 128 + bit_of types (first + 1) * 64 + bit_of types (first + 2) * 32 + bit_of types (first + 3) * 16
    + bit_of types (first + 4) * 8 + bit_of types (first + 5) * 4 + bit_of types (first + 6) * 2 + bit_of types (first + 7)

-- so many bytes, the first of them of the eight types from this one on
unfoldable pub octets_of : List ℕ → ℕ → ℕ → List ℕ
octets_of types first zero = []
octets_of types first (suc size) = octet_of types first ∷ octets_of types (first + 8) size

-- how many bytes a window has for a type: those up to its bit, none of another window
unfoldable pub needed : ℕ → ℕ → ℕ
needed number rtype = if rtype / 256 == number then rtype % 256 / 8 + 1 else 0

abbrev pub larger : ℕ → ℕ → ℕ
larger a b = if nat_lt a b then b else a

-- how many bytes a window has: those for its highest type, none where it has no type
unfoldable pub window_size : List ℕ → ℕ → ℕ
window_size [] number = 0
window_size (rtype ∷ types) number = larger (needed number rtype) (window_size types number)

-- a window; one without types isn't there
unfoldable pub window_of : List ℕ → ℕ → List ℕ
window_of types number =
    if window_size types number == 0 then []
    else number ∷ window_size types number ∷ octets_of types (number * 256) (window_size types number)

-- so many windows, from this number on
unfoldable pub windows_of : List ℕ → ℕ → ℕ → List ℕ
windows_of types number zero = []
windows_of types number (suc more) = window_of types number ++ windows_of types (number + 1) more

-- the bitmap
unfoldable pub bitmap_of : List ℕ → List ℕ
bitmap_of types = windows_of types 0 256
