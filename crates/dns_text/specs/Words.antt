-- Words that sessions and reports share: numbers as decimal digits, each in one form; bytes as hexadecimal digits, two for each; and
-- names with or without the last dot (RFC 1035, 5.1). They are printed by `decimal` of std, `octets_word` and `printed`.
use Rattle.std.specs.Prelude.{ℕ, Bool, true, false, not, ◌==◌, ◌&&◌, nat_le, List, [], ◌∷◌, codes, Option, None, Some, if◌then◌else◌}
use Rattle.std.specs.Result.{result_ok}
use Rattle.std.specs.Str.{all_ascii_digits}
use Rattle.std.specs.Str.Parse.{digits_value}
use Rattle.hex.specs.Hex.{encode_lower, decode_of}
use Rattle.dns_model.specs.Keys.{bytes_eq}
use Rattle.dns_model.specs.Names.{Labels}
use Rattle.dns_model.specs.NameText.{read_name}

-- no zero stands before another digit
abbrev pub is_unpadded : List ℕ → Bool
is_unpadded [] = false
is_unpadded (c ∷ []) = true
is_unpadded (c ∷ d ∷ cs) = not (c == 48)

-- digits, in the one form that their number has
abbrev pub is_decimal : List ℕ → Bool
is_decimal word = is_unpadded word && all_ascii_digits word

-- the number that a word is, where it is no more than the limit
unfoldable pub decimal_in : ℕ → List ℕ → Option ℕ
decimal_in limit word = if is_decimal word && nat_le (digits_value 10 word) limit then Some (digits_value 10 word) else None

-- the word of bytes, in lower case
unfoldable pub octets_word : List ℕ → List ℕ
octets_word [] = codes "-"
octets_word (b ∷ bs) = encode_lower (b ∷ bs)

-- the bytes that digits of either case are; no digits are no word
abbrev pub hex_in : List ℕ → Option (List ℕ)
hex_in [] = None
hex_in (c ∷ cs) = result_ok (decode_of (c ∷ cs))

-- the bytes that a word is
unfoldable pub octets_in : List ℕ → Option (List ℕ)
octets_in word = if bytes_eq word (codes "-") then Some [] else hex_in word

-- the name that a word is
abbrev pub name_word_in : List ℕ → Option Labels
name_word_in word = result_ok (read_name word)
