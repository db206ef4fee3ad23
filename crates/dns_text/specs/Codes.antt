-- Types and classes as they are read from words (RFC 1035, 3.2; RFC 3597, 5). They are printed by `type_word` and `class_word`.
use Rattle.std.specs.Prelude.{ℕ, List, length, take, drop, codes, Option, None, Some, is_some, if◌then◌else◌}
use Rattle.std.specs.Option.{option_or}
use Rattle.dns_model.specs.Keys.{bytes_eq}
use Rattle.dns_record.specs.Words.{Row, type_rows, class_rows, own_word, own_number}
use Rattle.dns_text.specs.Words.{decimal_in}
use Rattle.dns_model.specs.OptionSteps.{◌>>=◌}

-- what follows the prefix
abbrev pub after_prefix : List ℕ → List ℕ → Option (List ℕ)
after_prefix prefix word = if bytes_eq (take (length prefix) word) prefix then Some (drop (length prefix) word) else None

-- the number of 16 bits that the prefix and digits stand for; a number with its own word has no other
abbrev pub prefixed_in : List Row → List ℕ → List ℕ → Option ℕ
prefixed_in rows prefix word = do
  rest ← after_prefix prefix word
  n ← decimal_in 65535 rest
  if is_some (own_word rows n) then None else Some n

-- the number that a word stands for
abbrev pub code_in : List Row → List ℕ → List ℕ → Option ℕ
code_in rows prefix word = option_or (own_number rows word) (prefixed_in rows prefix word)

-- the type that a word is
unfoldable pub type_word_in : List ℕ → Option ℕ
type_word_in word = code_in type_rows (codes "TYPE") word

-- the class that a word is
unfoldable pub class_word_in : List ℕ → Option ℕ
class_word_in word = code_in class_rows (codes "CLASS") word
