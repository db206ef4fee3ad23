-- Names and character-strings as they stand in a master file, and words of a line (RFC 1035, 5.1).
use Rattle.std.specs.Prelude.{ℕ, Bool, ◌==◌, ◌&&◌, ◌||◌, nat_le, List, [], ◌∷◌, ◌++◌, if◌then◌else◌}
use Rattle.std.specs.List.{flat_map, list_any}
use Rattle.dns_model.specs.Names.{Labels}
use Rattle.dns_model.specs.NameText.{backslash, printed, three_digits}

abbrev pub space : ℕ
space = 32

abbrev pub quote : ℕ
quote = 34

-- words, a space before each
abbrev pub spaced : List (List ℕ) → List ℕ
spaced words = flat_map (λ word. space ∷ word) words

-- the bytes beside dot and backslash that mean something else than themselves: `"`, `$`, `(`, `)`, `;` and `@`
abbrev pub is_marked : ℕ → Bool
is_marked byte = list_any (λ marked. byte == marked) (quote ∷ 36 ∷ 40 ∷ 41 ∷ 59 ∷ 64 ∷ [])

unfoldable pub marked_byte : ℕ → List ℕ
marked_byte byte = if is_marked byte then backslash ∷ byte ∷ [] else byte ∷ []

-- a name: its printed form, with a backslash before each byte that means something else too
unfoldable pub name_text : Labels → List ℕ
name_text name = flat_map marked_byte (printed name)

-- a byte between quotes: those from space to `~` stand for themselves, `"` and `\` behind a backslash, others as their numbers
unfoldable pub quoted_byte : ℕ → List ℕ
quoted_byte byte =
    if (byte == quote) || (byte == backslash) then backslash ∷ byte ∷ []
    else if nat_le 32 byte && nat_le byte 126 then byte ∷ []
    else backslash ∷ three_digits byte

-- a character-string, between quotes
unfoldable pub quoted : List ℕ → List ℕ
quoted text = quote ∷ (flat_map quoted_byte text ++ quote ∷ [])
