-- Character-strings as they stand in a master file (RFC 1035, 5.1): `\` and three digits are the byte of that number, `\` and another
-- byte that byte.
use Rattle.std.specs.Prelude.{ℕ, ◌==◌, List, [], ◌∷◌, if◌then◌else◌, Option, None, Some}
use Rattle.dns_model.specs.NameText.{backslash, is_digit, number_in}
use Rattle.dns_model.specs.OptionSteps.{◌>>=◌}

-- the byte after a backslash, and what is left
unfoldable pub escaped_in : List ℕ → Option (ℕ × List ℕ)
escaped_in [] = None
escaped_in (byte ∷ rest) = if is_digit byte then number_in byte rest else Some (byte, rest)

-- the byte of a text that begins so, and what is left
unfoldable pub byte_in : ℕ → List ℕ → Option (ℕ × List ℕ)
byte_in byte rest = if byte == backslash then escaped_in rest else Some (byte, rest)

-- the bytes of a text; the first list only bounds how many are read
unfoldable pub bytes_in : List ℕ → List ℕ → Option (List ℕ)
bytes_in bound [] = Some []
bytes_in [] (byte ∷ rest) = None
bytes_in (_ ∷ bound) (byte ∷ rest) = do
  first ← byte_in byte rest
  more ← bytes_in bound first.1
  Some (first.0 ∷ more)

-- the bytes of a text
unfoldable pub text_in : List ℕ → Option (List ℕ)
text_in text = bytes_in text text
