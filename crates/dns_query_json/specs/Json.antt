-- JSON texts: strings, numbers, fields and lists (RFC 8259).
use Rattle.std.specs.Prelude.{ℕ, Bool, ◌==◌, ◌&&◌, ◌||◌, nat_le, List, [], ◌∷◌, ◌++◌, codes, Option, None, Some, if◌then◌else◌}
use Rattle.std.specs.Fmt.{decimal}
use Rattle.std.specs.List.{flat_map, join_by}
use Rattle.hex.specs.Hex.{encode_lower}

-- ---- strings (RFC 8259, 7)

-- a quotation mark and a backslash stand behind a backslash
abbrev pub is_escaped : ℕ → Bool
is_escaped byte = byte == 34 || byte == 92

-- other bytes of ASCII that can be seen, and spaces, stand for themselves
abbrev pub is_plain : ℕ → Bool
is_plain byte = nat_le 32 byte && nat_le byte 126

-- a byte of a string, as the character of its number
unfoldable pub string_byte : ℕ → List ℕ
string_byte byte =
    if is_escaped byte then 92 ∷ byte ∷ []
    else if is_plain byte then byte ∷ []
    else codes "\\u00" ++ encode_lower (byte ∷ [])

unfoldable pub quoted : List ℕ → List ℕ
quoted text = 34 ∷ (flat_map string_byte text ++ 34 ∷ [])

-- ---- numbers

unfoldable pub number_or_null : Option ℕ → List ℕ
number_or_null None = codes "null"
number_or_null (Some number) = decimal number

-- ---- fields of objects (RFC 8259, 4)

-- the name of a field, and the colon behind it
unfoldable pub named : List ℕ → List ℕ
named name = 34 ∷ (name ++ 34 ∷ 58 ∷ [])

-- a field whose value is a number, and one whose value is a string
unfoldable pub number_field : List ℕ → ℕ → List ℕ
number_field name number = named name ++ decimal number

unfoldable pub string_field : List ℕ → List ℕ → List ℕ
string_field name text = named name ++ quoted text

-- ---- lists (RFC 8259, 5)

-- the texts of values, with a comma between each two
abbrev pub listed : {X : Type 0} → (X → List ℕ) → List X → List ℕ
listed value xs = 91 ∷ (join_by value (44 ∷ []) xs ++ 93 ∷ [])
