-- Character-strings are read as they were written.
use Rattle.std.proofs.Common.{◌≡◌, ℕ, ◌+◌, ◌/◌, ◌<◌, ◌≤◌, Bool, true, false, ◌&&◌, ◌||◌, ◌==◌, List, [], ◌∷◌, ◌++◌, length, cond, Option, None, Some, refl, sym, ap, ◌∙◌, arith, append-nil, inl, inr}
use Rattle.std.specs.Prelude.{nat_le, nat_lt}
use Rattle.std.specs.List.{flat_map}
use Rattle.std.proofs.lemmas.Bool.{and_parts, cases_Bool}
use Rattle.std.proofs.lemmas.Bool.Decides.{nat_tests}
use Rattle.std.proofs.lemmas.List.{append_assoc}
use Rattle.dns_model.specs.Bytes.{is_bytes}
use Rattle.dns_model.specs.NameText.{backslash, escape_in, is_digit, number_in, number_of_digits, three_digits}
use Rattle.dns_model.specs.OptionSteps.{◌>>=◌}
use Rattle.dns_model.proofs.WireLemmas.{second_of_some}
use Rattle.dns_record.proofs.TextLemmas.{digits_read}
use Rattle.dns_presentation.specs.Spelling.{quote, quoted_byte}
use Rattle.dns_master_words.specs.Texts.{byte_in, bytes_in, escaped_in, text_in}

abbrev Front : Type 0
Front = Option (ℕ × List ℕ)

-- ---- each step takes a byte at least

number_shorter : (a : ℕ) (text rest : List ℕ) (value : ℕ) → number_in a text ≡ Some (value, rest)
    → length rest ≤ length text
unfolding number_in
number_shorter a [] rest value h = cc
number_shorter a (b ∷ []) rest value h = cc
number_shorter a (b ∷ c ∷ left) rest value h =
    number_cut (is_digit b && is_digit c && nat_le (number_of_digits a b c) 255) (number_of_digits a b c) h
  where
    number_cut : (t : Bool) (n : ℕ) → cond {A = Front} t (Some (n, left)) None ≡ Some (value, rest)
        → length rest ≤ length (b ∷ c ∷ left)
    number_cut true n h = let same : left ≡ rest = second_of_some h in rw (← same) (omega arith)
    number_cut false n h = cc

escaped_shorter : (text rest : List ℕ) (value : ℕ) → escaped_in text ≡ Some (value, rest) → length rest ≤ length text
unfolding escaped_in
escaped_shorter [] rest value h = cc
escaped_shorter (byte ∷ left) rest value h = escaped_cut (is_digit byte) h
  where
    escaped_cut : (d : Bool) → cond {A = Front} d (number_in byte left) (Some (byte, left)) ≡ Some (value, rest)
        → length rest ≤ length (byte ∷ left)
    escaped_cut true h = omega (arith, number_shorter byte left rest value h)
    escaped_cut false h = let same : left ≡ rest = second_of_some h in rw (← same) (omega arith)

pub byte_shorter : (byte : ℕ) (text rest : List ℕ) (value : ℕ) → byte_in byte text ≡ Some (value, rest)
    → length rest ≤ length text
unfolding byte_in
byte_shorter byte text rest value h = byte_cut (byte == backslash) h
  where
    byte_cut : (e : Bool) → cond {A = Front} e (escaped_in text) (Some (byte, text)) ≡ Some (value, rest)
        → length rest ≤ length text
    byte_cut true h = escaped_shorter text rest value h
    byte_cut false h = let same : text ≡ rest = second_of_some h in rw (← same) (omega arith)

-- ---- the bound says nothing once it is long enough

abbrev then_more : Front → (List ℕ → Option (List ℕ)) → Option (List ℕ)
then_more front more = front >>= λ first. more first.1 >>= λ bytes. Some (first.0 ∷ bytes)

then_same : (front : Front) (f g : List ℕ → Option (List ℕ))
    → ((value : ℕ) (rest : List ℕ) → front ≡ Some (value, rest) → f rest ≡ g rest)
    → then_more front f ≡ then_more front g
then_same None f g h = refl
then_same (Some (value, rest)) f g h = ap (λ more. more >>= λ bytes. Some (value ∷ bytes)) (h value rest refl)

bound_enough : (a b text : List ℕ) → length text ≤ length a → length text ≤ length b → bytes_in a text ≡ bytes_in b text
unfolding bytes_in
bound_enough a b [] g h = refl
bound_enough [] b (x ∷ xs) g h = absurd (omega arith)
bound_enough (p ∷ a) [] (x ∷ xs) g h = absurd (omega arith)
bound_enough (p ∷ a) (q ∷ b) (x ∷ xs) g h =
    then_same (byte_in x xs) (bytes_in a) (bytes_in b)
    (λ value rest e. let s = byte_shorter x xs rest value e in bound_enough a b rest (omega arith) (omega arith))

-- a text is its first byte and what is left
pub text_step : (byte : ℕ) (text : List ℕ) → text_in (byte ∷ text) ≡ then_more (byte_in byte text) text_in
unfolding text_in bytes_in
text_step byte text =
    then_same (byte_in byte text) (bytes_in text) (λ rest. bytes_in rest rest)
    (λ value rest e.
    let s = byte_shorter byte text rest value e in bound_enough text rest rest (omega arith) (omega arith))

-- ---- what a loop gathers

-- bytes that were read, and those that are left
abbrev pub text_after : List ℕ → Option (List ℕ) → Option (List ℕ)
text_after seen None = None
text_after seen (Some bytes) = Some (seen ++ bytes)

text_then : (seen : List ℕ) (value : ℕ) (bytes : Option (List ℕ))
    → text_after seen (bytes >>= λ bs. Some (value ∷ bs)) ≡ text_after (seen ++ value ∷ []) bytes
text_then seen value None = refl
text_then seen value (Some bytes) = ap Some (sym (append_assoc seen (value ∷ []) bytes))

pub text_start : (text : List ℕ) → text_after [] (text_in text) ≡ text_in text
text_start text = elim (text_in text) as (λ t. text_after [] t ≡ t) [ None ↦ refl | Some t ↦ refl ]

-- one byte more
pub text_more : (seen : List ℕ) (byte : ℕ) (text : List ℕ) (value : ℕ) (rest : List ℕ)
    → byte_in byte text ≡ Some (value, rest)
    → text_after seen (text_in (byte ∷ text)) ≡ text_after (seen ++ value ∷ []) (text_in rest)
text_more seen byte text value rest h =
    ap (text_after seen) (text_step byte text ∙ ap (λ front. then_more front text_in) h)
    ∙ text_then seen value (text_in rest)

-- a backslash without a meaning
pub text_fail : (seen : List ℕ) (byte : ℕ) (text : List ℕ) → byte_in byte text ≡ None
    → text_after seen (text_in (byte ∷ text)) ≡ None
text_fail seen byte text h =
    ap (text_after seen) (text_step byte text ∙ ap (λ front. then_more front text_in) h)

pub text_end : (seen rest : List ℕ) → length rest ≡ 0 → text_after seen (text_in rest) ≡ Some seen
unfolding text_in bytes_in
text_end seen [] over = ap Some (append-nil seen)
text_end seen (b ∷ bs) over = absurd (omega (arith, over))

-- ---- what was written is read

-- a byte in front of a text that is read
one_more : (byte : ℕ) (text : List ℕ) (value : ℕ) (rest bytes : List ℕ) → byte_in byte text ≡ Some (value, rest)
    → text_in rest ≡ Some bytes → text_in (byte ∷ text) ≡ Some (value ∷ bytes)
one_more byte text value rest bytes first others =
    text_step byte text ∙ ap (λ front. then_more front text_in) first
    ∙ ap (λ more. more >>= λ bs. Some (value ∷ bs)) others

escaped_number : (byte : ℕ) (rest : List ℕ) → byte < 256 → escaped_in (three_digits byte ++ rest) ≡ Some (byte, rest)
unfolding escaped_in escape_in
escaped_number byte rest small =
    let digit : is_digit (48 + byte / 100) ≡ true = grind (arith, nat_tests) in
    let read : escape_in (three_digits byte ++ rest) ≡ Some (byte, rest) = digits_read byte rest small in
    rw digit (rw digit at read)

after_slash : (text : List ℕ) (value : ℕ) (rest : List ℕ) → escaped_in text ≡ Some (value, rest)
    → byte_in backslash text ≡ Some (value, rest)
unfolding byte_in
after_slash text value rest h = h

itself : (byte : ℕ) (rest : List ℕ) → (byte == backslash) ≡ false → byte_in byte rest ≡ Some (byte, rest)
unfolding byte_in
itself byte rest other = rw other refl

escaped_itself : (byte : ℕ) (rest : List ℕ) → is_digit byte ≡ false → escaped_in (byte ∷ rest) ≡ Some (byte, rest)
unfolding escaped_in
escaped_itself byte rest other = rw other refl

byte_back : (byte : ℕ) (rest bytes : List ℕ) → byte < 256 → text_in rest ≡ Some bytes
    → text_in (quoted_byte byte ++ rest) ≡ Some (byte ∷ bytes)
unfolding quoted_byte
byte_back byte rest bytes small others =
    elim (cases_Bool ((byte == quote) || (byte == backslash))) [
      | inl marked ↦
          let other : is_digit byte ≡ false = grind (arith, nat_tests, marked) in
          rw marked (one_more backslash (byte ∷ rest) byte rest bytes
          (after_slash (byte ∷ rest) byte rest (escaped_itself byte rest other)) others)
      | inr plain ↦
          let no_slash : (byte == backslash) ≡ false = grind (arith, nat_tests, plain) in
          elim (cases_Bool (nat_le 32 byte && nat_le byte 126)) [
            | inl shown ↦ rw (plain, shown) (one_more byte rest byte rest bytes (itself byte rest no_slash) others)
            | inr hidden ↦ rw (plain, hidden) (one_more backslash (three_digits byte ++ rest) byte rest bytes
                (after_slash (three_digits byte ++ rest) byte rest (escaped_number byte rest small)) others)
          ]
    ]

none_read : text_in [] ≡ Some []
unfolding text_in bytes_in
none_read = refl

-- what is written between quotes is read as the same bytes
pub text_back : (bytes : List ℕ) → is_bytes bytes ≡ true → text_in (flat_map quoted_byte bytes) ≡ Some bytes
text_back [] h = none_read
text_back (b ∷ bs) h =
    let parts = and_parts (nat_lt b 256) (is_bytes bs) h in
    let small : b < 256 = grind (arith, nat_tests, parts.0) in
    byte_back b (flat_map quoted_byte bs) bs small (text_back bs parts.1)
