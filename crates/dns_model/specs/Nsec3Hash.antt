-- The hash of a name in NSEC3 records, and how a hash is written as a label (RFC 5155, 3.3 and 5; RFC 4648, 7).
use Rattle.std.specs.Prelude.{ℕ, zero, suc, ◌+◌, ◌-◌, ◌/◌, ◌%◌, Bool, ◌==◌, ◌&&◌, ◌||◌, nat_lt, nat_le, List, [], ◌∷◌, ◌++◌, map, length, if◌then◌else◌, Option, None, Some}
use Rattle.std.specs.Char.{to_ascii_lowercase}
use Rattle.std.specs.Int.Digits.{number_from_digits}
use Rattle.std.specs.List.{list_all}
use Rattle.sha1.specs.Sha1.{sha1}
use Rattle.dns_model.specs.Names.{Labels, folded, wire}

-- ---- hashes

-- the digest of the bytes with the salt behind them, and then of that digest with the salt behind it, this many more times
-- (RFC 5155, 5: `IH`)
unfoldable pub iterated_hash : List ℕ → List ℕ → ℕ → List ℕ
iterated_hash salt bytes zero = sha1 (bytes ++ salt)
iterated_hash salt bytes (suc iterations) = sha1 (iterated_hash salt bytes iterations ++ salt)

-- the hash of a name: of its wire form with A to Z as a to z (RFC 5155, 5)
abbrev pub nsec3_hash : List ℕ → Labels → ℕ → List ℕ
nsec3_hash salt name iterations = iterated_hash salt (wire (folded name)) iterations

-- ---- base32 with the extended hex alphabet

-- the symbol of five bits: 0 to 9 are `0` to `9`, 10 to 31 are `a` to `v` (RFC 4648, 7; in lower case)
abbrev pub symbol : ℕ → ℕ
symbol bits = if nat_lt bits 10 then 48 + bits else 87 + bits

-- a symbol in either case
abbrev pub is_symbol : ℕ → Bool
is_symbol c = (nat_le 48 c && nat_le c 57) || (nat_le 97 (to_ascii_lowercase c) && nat_le (to_ascii_lowercase c) 118)

-- the five bits of a symbol in either case
abbrev pub symbol_bits : ℕ → ℕ
symbol_bits c = if nat_le c 57 then c - 48 else to_ascii_lowercase c - 87

-- forty bits in groups of five, the highest first
abbrev pub groups_of_five : ℕ → List ℕ
groups_of_five bits =
    bits / 34359738368 % 32 ∷ bits / 1073741824 % 32 ∷ bits / 33554432 % 32 ∷ bits / 1048576 % 32
    ∷ bits / 32768 % 32 ∷ bits / 1024 % 32 ∷ bits / 32 % 32 ∷ bits % 32 ∷ []

-- forty bits as five bytes, the highest first
abbrev pub five_bytes : ℕ → List ℕ
five_bytes bits =
    bits / 4294967296 % 256 ∷ bits / 16777216 % 256 ∷ bits / 65536 % 256 ∷ bits / 256 % 256 ∷ bits % 256 ∷ []

-- bytes as symbols: each five bytes are forty bits, and these eight symbols (RFC 4648, 6). A hash has four times five bytes,
-- so nothing is padded.
unfoldable pub base32hex : List ℕ → List ℕ
base32hex (a ∷ b ∷ c ∷ d ∷ e ∷ rest) =
    map symbol (groups_of_five (number_from_digits 256 (a ∷ b ∷ c ∷ d ∷ e ∷ []))) ++ base32hex rest
base32hex bytes = []

-- the bytes of symbols: each eight symbols are forty bits, and these five bytes
unfoldable pub base32hex_bytes : List ℕ → List ℕ
base32hex_bytes (a ∷ b ∷ c ∷ d ∷ e ∷ f ∷ g ∷ h ∷ rest) =
    five_bytes (number_from_digits 32 (map symbol_bits (a ∷ b ∷ c ∷ d ∷ e ∷ f ∷ g ∷ h ∷ []))) ++ base32hex_bytes rest
base32hex_bytes text = []

-- a hash of 20 bytes as symbols, in either case
abbrev pub is_hash_text : List ℕ → Bool
is_hash_text text = (length text == 32) && list_all is_symbol text

-- the hash that a text is
abbrev pub base32hex_decode : List ℕ → Option (List ℕ)
base32hex_decode text = if is_hash_text text then Some (base32hex_bytes text) else None
