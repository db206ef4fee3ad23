-- Words of types and classes as they are read (RFC 1035, 3.2; RFC 3597, 5). Case counts.
use Rattle.std.specs.Prelude.{ℕ, List, codes, Option}
use Rattle.std.specs.Option.{option_or}
use Rattle.dns_model.specs.OptionSteps.{◌>>=◌}
use Rattle.dns_record.specs.Words.{type_rows, class_rows, own_number}
use Rattle.dns_text.specs.Codes.{after_prefix}
use Rattle.dns_text.specs.Words.{decimal_in}
use Rattle.dns_presentation.specs.TypeTexts.{further_rows}

-- the number of 16 bits behind a prefix, whether it has a word of its own or not
abbrev pub numbered_in : List ℕ → List ℕ → Option ℕ
numbered_in prefix word = after_prefix prefix word >>= decimal_in 65535

-- the type that a word is
unfoldable pub type_in : List ℕ → Option ℕ
type_in word = option_or (own_number further_rows word) (option_or (own_number type_rows word) (numbered_in (codes "TYPE") word))

-- the class that a word is
unfoldable pub class_in : List ℕ → Option ℕ
class_in word = option_or (own_number class_rows word) (numbered_in (codes "CLASS") word)
