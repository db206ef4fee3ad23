-- The words at the front of what is left of a line (RFC 1035, 5.1). What is left begins with no blank.
use Rattle.std.specs.Prelude.{ℕ, suc, ◌+◌, Bool, true, false, not, ◌==◌, ◌&&◌, ◌||◌, nat_lt, List, [], ◌∷◌, ◌++◌, length, take, drop, if◌then◌else◌, Option, Result, Ok, Err}
use Rattle.dns_model.specs.Gives.{or_error}
use Rattle.dns_model.specs.NameText.{backslash}
use Rattle.dns_model.specs.ResultSteps.{◌>>=◌}
use Rattle.dns_presentation.specs.Spelling.{quote}
use Rattle.dns_master_file.specs.declared.stop.Refusal.{Refusal}
use Rattle.dns_master_file.specs.declared.stop.Refusal.TheVariants.{MissingWord, OpenQuote, QuotedWord, Bracket}
use Rattle.dns_master_file.specs.declared.stop.Stop.{Stop}
use Rattle.dns_master_file.specs.declared.stop.Stop.TheVariants.{At}

-- `;`, which begins a comment
abbrev pub semicolon : ℕ
semicolon = 59

-- space, tab, and the CR that some files have before each LF
abbrev pub is_blank : ℕ → Bool
is_blank byte = (byte == 32) || (byte == 9) || (byte == 13)

-- `(` and `)`, between which a record spans lines
abbrev pub is_bracket : ℕ → Bool
is_bracket byte = (byte == 40) || (byte == 41)

-- the bytes before which a word ends
abbrev pub ends_word : ℕ → Bool
ends_word byte = is_blank byte || is_bracket byte || (byte == quote) || (byte == semicolon)

-- what is left after blanks
unfoldable pub after_blanks : List ℕ → List ℕ
after_blanks [] = []
after_blanks (byte ∷ rest) = if is_blank byte then after_blanks rest else byte ∷ rest

-- the line ends here, or has but a comment left
abbrev pub is_over : List ℕ → Bool
is_over [] = true
is_over (byte ∷ rest) = byte == semicolon

-- how many bytes of a word there are, after a backslash or not; a byte behind one belongs to the word, whatever it is
unfoldable pub run_size : Bool → List ℕ → ℕ
run_size escaped [] = 0
run_size escaped (byte ∷ rest) =
    if not escaped && ends_word byte then 0 else suc (run_size (not escaped && (byte == backslash)) rest)

-- refused where so much of the line is left
abbrev pub refused : {X : Type 0} → Refusal → List ℕ → Result X Stop
refused reason left = Err (At reason (length left))

-- the bytes of the word at the front, and what is left after it
abbrev pub word_cut : List ℕ → List ℕ × List ℕ
word_cut bytes = (take (run_size false bytes) bytes, after_blanks (drop (run_size false bytes) bytes))

-- the word at the front, which has no quotes, and what is left after it
unfoldable pub word_in : List ℕ → Result (List ℕ × List ℕ) Stop
word_in [] = refused MissingWord []
word_in (byte ∷ rest) =
    if byte == semicolon then refused MissingWord (byte ∷ rest)
    else if byte == quote then refused QuotedWord (byte ∷ rest)
    else if is_bracket byte then refused Bracket (byte ∷ rest)
    else Ok (word_cut (byte ∷ rest))

-- how many bytes stand before the closing quote, after a backslash or not; where there is none, all of them
unfoldable pub quoted_size : Bool → List ℕ → ℕ
quoted_size escaped [] = 0
quoted_size escaped (byte ∷ rest) =
    if not escaped && (byte == quote) then 0 else suc (quoted_size (not escaped && (byte == backslash)) rest)

-- what stands between quotes, given what stands after the first of them, and what is left after the other
abbrev pub quoted_cut : List ℕ → List ℕ × List ℕ
quoted_cut bytes = (take (quoted_size false bytes) bytes, after_blanks (drop (quoted_size false bytes + 1) bytes))

-- a text between quotes
unfoldable pub quoted_in : List ℕ → Result (List ℕ × List ℕ) Stop
quoted_in [] = refused MissingWord []
quoted_in (byte ∷ rest) =
    if nat_lt (quoted_size false rest) (length rest) then Ok (quoted_cut rest) else refused OpenQuote (byte ∷ rest)

-- the text at the front as it stands, which is a word or stands between quotes, and what is left after it
unfoldable pub text_word : List ℕ → Result (List ℕ × List ℕ) Stop
text_word [] = refused MissingWord []
text_word (byte ∷ rest) = if byte == quote then quoted_in (byte ∷ rest) else word_in (byte ∷ rest)

-- what the word at the front means, refused for this reason where it means nothing, and what is left after it
abbrev pub word_as : {X : Type 0} → Refusal → (List ℕ → Option X) → List ℕ → Result (X × List ℕ) Stop
word_as reason meaning bytes = do
  word ← word_in bytes
  value ← or_error (At reason (length bytes)) (meaning word.0)
  Ok (value, word.1)

-- bytes in front of those of what is left
abbrev pub with_bytes : List ℕ → Result (List ℕ) Stop → Result (List ℕ) Stop
with_bytes bytes rest = rest >>= λ more. Ok (bytes ++ more)

-- a byte that isn't a blank
abbrev pub unblanked : ℕ → List ℕ
unblanked byte = if is_blank byte then [] else byte ∷ []

-- all words that are left, without the blanks between them
unfoldable pub joined_in : List ℕ → Result (List ℕ) Stop
joined_in [] = Ok []
joined_in (byte ∷ rest) =
    if byte == semicolon then Ok []
    else if byte == quote then refused QuotedWord (byte ∷ rest)
    else if is_bracket byte then refused Bracket (byte ∷ rest)
    else with_bytes (unblanked byte) (joined_in rest)

-- ---- what is left, item by item

-- the items that are left, each read so; the first list only bounds how many are read
unfoldable pub items_in : {X : Type 0} → (List ℕ → Result (X × List ℕ) Stop) → List ℕ → List ℕ → Result (List X) Stop
items_in read [] bytes = Ok []
items_in read (_ ∷ bound) bytes =
    if is_over bytes then Ok []
    else read bytes >>= λ first. items_in read bound first.1 >>= λ more. Ok (first.0 ∷ more)

-- all items that are left
unfoldable pub all_in : {X : Type 0} → (List ℕ → Result (X × List ℕ) Stop) → List ℕ → Result (List X) Stop
all_in read bytes = items_in read bytes bytes
