-- The bytes of printed words are above the space, and two values with one word are equal.
use Rattle.std.proofs.Common.{◌≡◌, ℕ, zero, suc, ◌^◌, ◌<◌, ◌≤◌, Bool, true, ◌==◌, nat_lt, List, [], ◌∷◌, ◌++◌, codes, unwrap_or, refl, sym, ap, ◌∙◌, arith, inl, inr}
use Rattle.std.specs.Fmt.{decimal}
use Rattle.std.specs.Char.{is_ascii_digit}
use Rattle.std.specs.Str.{all_ascii_digits}
use Rattle.std.specs.List.{list_all}
use Rattle.std.proofs.lemmas.Bool.{cases_Bool, and_parts, ltb-true}
use Rattle.std.proofs.lemmas.Bool.Decides.{nat_tests}
use Rattle.std.proofs.lemmas.Fmt.{digits_decimal}
use Rattle.std.proofs.lemmas.List.Folds.{list_all-append}
use Rattle.std.proofs.lemmas.List.Sums.{list_all-from_AllPass}
use Rattle.hex.specs.Hex.{encode_lower, is_hex_digit, IsBytes}
use Rattle.hex.proofs.HexLemmas.{decode_of-encode_lower, decode_of-ok}
use Rattle.std.proofs.lemmas.Option.{same_Some}
use Rattle.dns_model.specs.Bytes.{is_bytes}
use Rattle.dns_record.specs.Words.{Row, type_rows, class_rows, own_word, type_word, class_word}
use Rattle.dns_text.specs.Codes.{type_word_in, class_word_in}
use Rattle.dns_text.specs.Words.{octets_word, octets_in}
use Rattle.dns_text.proofs.WordLaws.{own, type_back, class_back}
use Rattle.dns_text.proofs.OctetLaws.{octets_back}

-- ---- bytes above the space

abbrev pub is_word : List ℕ → Bool
is_word word = list_all (λ b. nat_lt 32 b) word

pub word_append : (a b : List ℕ) → is_word a ≡ true → is_word b ≡ true → is_word (a ++ b) ≡ true
word_append a b first second = rw (list_all-append (λ b. nat_lt 32 b) a b, first, second) refl

digits_word : (ds : List ℕ) → all_ascii_digits ds ≡ true → is_word ds ≡ true
digits_word [] h = refl
digits_word (c ∷ cs) h =
    let parts = and_parts (is_ascii_digit c) (all_ascii_digits cs) h in
    let digit : is_ascii_digit c ≡ true = parts.0 in
    let above : nat_lt 32 c ≡ true = grind (arith, nat_tests) in
    rw above (digits_word cs parts.1)

pub decimal_word : (n : ℕ) → n < 2 ^ 64 → is_word (decimal n) ≡ true
decimal_word n h = digits_word (decimal n) (digits_decimal own n h)

hex_digit_above : (c : ℕ) → is_hex_digit c ≡ true → nat_lt 32 c ≡ true
hex_digit_above c h = grind (arith, nat_tests)

hex_digits_word : (ds : List ℕ) → list_all is_hex_digit ds ≡ true → is_word ds ≡ true
hex_digits_word [] h = refl
hex_digits_word (c ∷ cs) h =
    let parts = and_parts (is_hex_digit c) (list_all is_hex_digit cs) h in
    rw (hex_digit_above c parts.0) (hex_digits_word cs parts.1)

-- bytes, as hexadecimal digits ask for them
pub bytes_below : (bytes : List ℕ) → is_bytes bytes ≡ true → IsBytes bytes
bytes_below [] h i = omega arith
bytes_below (b ∷ bs) h zero = let parts = and_parts (nat_lt b 256) (is_bytes bs) h in ltb-true b 256 parts.0
bytes_below (b ∷ bs) h (suc i) = let parts = and_parts (nat_lt b 256) (is_bytes bs) h in bytes_below bs parts.1 i

pub octets_is_word : (bytes : List ℕ) → is_bytes bytes ≡ true → is_word (octets_word bytes) ≡ true
unfolding octets_word
octets_is_word [] h = refl
octets_is_word (b ∷ bs) h =
    hex_digits_word (encode_lower (b ∷ bs))
    (list_all-from_AllPass is_hex_digit _ (decode_of-ok _ _ (decode_of-encode_lower (b ∷ bs) (bytes_below (b ∷ bs) h))).1)

-- an own word or another
own_or : (rows : List Row) (n : ℕ) (other : List ℕ) → list_all (λ row. is_word row.1) rows ≡ true → is_word other ≡ true
    → is_word (unwrap_or (own_word rows n) other) ≡ true
unfolding own_word
own_or [] n other rows_are is = is
own_or (row ∷ rows) n other rows_are is =
    let parts = and_parts (is_word row.1) (list_all (λ row. is_word row.1) rows) rows_are in
    elim (cases_Bool (row.0 == n)) [
      | inl same ↦ rw same parts.0
      | inr apart ↦ rw apart (own_or rows n other parts.1 is)
    ]

pub type_is_word : (n : ℕ) → n ≤ 65535 → is_word (type_word n) ≡ true
unfolding type_word
type_is_word n within =
    own_or type_rows n (codes "TYPE" ++ decimal n) refl
    (word_append (codes "TYPE") (decimal n) refl (decimal_word n (omega arith)))

pub class_is_word : (n : ℕ) → n ≤ 65535 → is_word (class_word n) ≡ true
unfolding class_word
class_is_word n within =
    own_or class_rows n (codes "CLASS" ++ decimal n) refl
    (word_append (codes "CLASS") (decimal n) refl (decimal_word n (omega arith)))

-- ---- one word, one value

pub type_injective : (m n : ℕ) → m ≤ 65535 → n ≤ 65535 → type_word m ≡ type_word n → m ≡ n
type_injective m n first second h = same_Some m n (sym (type_back m first) ∙ ap type_word_in h ∙ type_back n second)

pub class_injective : (m n : ℕ) → m ≤ 65535 → n ≤ 65535 → class_word m ≡ class_word n → m ≡ n
class_injective m n first second h = same_Some m n (sym (class_back m first) ∙ ap class_word_in h ∙ class_back n second)

pub octets_injective : (a b : List ℕ) → is_bytes a ≡ true → is_bytes b ≡ true → octets_word a ≡ octets_word b → a ≡ b
octets_injective a b first second h =
    same_Some a b (sym (octets_back a (bytes_below a first)) ∙ ap octets_in h ∙ octets_back b (bytes_below b second))
