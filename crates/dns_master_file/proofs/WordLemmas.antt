-- Words with a space before each are read as the same words.
use Rattle.std.proofs.Common.{◌≡◌, ℕ, zero, suc, ◌+◌, ◌^◌, ◌<◌, ◌≤◌, Bool, true, false, not, ◌&&◌, ◌==◌, List, [], ◌∷◌, ◌++◌, length, take, drop, codes, Result, Ok, unwrap_or, refl, sym, ap, ◌∙◌, arith, length-append, inl, inr}
use Rattle.std.specs.Prelude.{nat_eq, nat_lt, All, get_or}
use Rattle.std.specs.Char.{is_ascii_alphanumeric, is_ascii_digit}
use Rattle.std.specs.Net.Addr.{octets_of}
use Rattle.std.specs.Net.Text.{hex_groups_text, ipv4_text, ipv6_text}
use Rattle.std.specs.Fmt.{decimal}
use Rattle.std.specs.List.{list_all}
use Rattle.std.specs.Str.{all_ascii_digits}
use Rattle.std.proofs.Math.Seq.{take-append_seam, drop-append_seam}
use Rattle.std.proofs.lemmas.Bool.{cases_Bool, and_parts}
use Rattle.std.proofs.lemmas.Bool.Decides.{nat_tests}
use Rattle.std.proofs.lemmas.Fmt.{decimal_nonempty, digits_decimal}
use Rattle.std.proofs.NetLemmas.Alphabet.{All-hex_groups_text, All-ipv4_text, IsDigitOrDot, IsHexOrColon}
use Rattle.std.proofs.NetLemmas.Texts.{AllSegments, AllSegments-drop}
use Rattle.std.proofs.lemmas.List.Elements.{All-weaker}
use Rattle.std.proofs.lemmas.List.Folds.{list_all-append}
use Rattle.std.proofs.lemmas.List.Sums.{list_all-from_AllPass}
use Rattle.hex.specs.Hex.{encode_lower, is_hex_digit}
use Rattle.hex.proofs.HexLemmas.{decode_of-encode_lower, decode_of-ok}
use Rattle.dns_model.specs.Bytes.{is_bytes}
use Rattle.dns_model.specs.NameText.{backslash}
use Rattle.dns_record.specs.Words.{Row, class_rows, class_word, own_word, type_rows, type_word}
use Rattle.dns_text.specs.Words.{octets_word}
use Rattle.dns_text.proofs.WordLaws.{own}
use Rattle.dns_text.proofs.WordShapes.{bytes_below}
use Rattle.dns_model.specs.Keys.{bytes_eq}
use Rattle.dns_presentation.specs.Calendar.{time_text}
use Rattle.dns_master_words.proofs.TimeLaws.{time_digits, time_size}
use Rattle.dns_master_file.specs.Front.{after_blanks, ends_word, is_blank, is_bracket, is_over, run_size, semicolon, word_in}
use Rattle.dns_master_file.specs.declared.stop.Stop.{Stop}
use Rattle.dns_presentation.specs.Spelling.{quote, spaced}
use Rattle.dns_presentation.specs.TypeTexts.{further_rows, type_text}

-- ---- words

-- a word: it begins with a byte that ends none, and goes on up to what follows it
pub record IsWord (word : List ℕ) : Type 0 where
  pub first : ℕ
  pub rest : List ℕ
  pub spelled : word ≡ first ∷ rest
  pub begins : ends_word first ≡ false
  pub runs : (more : List ℕ) → run_size false (word ++ more) ≡ length word + run_size false more

pub same_first : (a b : ℕ) (rest others : List ℕ) → ◌≡◌ {A = List ℕ} (a ∷ rest) (b ∷ others) → b ≡ a
same_first a b rest others h = cc

pub begins_so : (b : ℕ) (bs : List ℕ) → IsWord (b ∷ bs) → ends_word b ≡ false
begins_so b bs is = ap ends_word (sym (same_first b is.first bs is.rest is.spelled)) ∙ is.begins

-- a word and what follows it
cut : (word more : List ℕ)
    → ◌≡◌ {A = Result (List ℕ × List ℕ) Stop}
    (Ok (take (length word) (word ++ more), after_blanks (drop (length word) (word ++ more))))
    (Ok (word, after_blanks more))
cut word more =
    let front : take (length word) (word ++ more) ≡ word = take-append_seam word more in
    let back : drop (length word) (word ++ more) ≡ more = drop-append_seam word more in
    rw (front, back) refl

abbrev cut_at : List ℕ → ℕ → Result (List ℕ × List ℕ) Stop
cut_at bytes size = Ok (take size bytes, after_blanks (drop size bytes))

-- a word in front is read, where what follows ends it
word_read : (word more : List ℕ) → IsWord word → run_size false more ≡ 0
    → word_in (word ++ more) ≡ Ok (word, after_blanks more)
unfolding word_in
word_read [] more is h = let none : [] ≡ is.first ∷ is.rest = is.spelled in cc
word_read (b ∷ bs) more is h =
    let edge = begins_so b bs is in
    let no_comment : (b == semicolon) ≡ false = grind (arith, nat_tests, edge) in
    let no_quote : (b == quote) ≡ false = grind (arith, nat_tests, edge) in
    let no_bracket : is_bracket b ≡ false = grind (arith, nat_tests, edge) in
    let size : run_size false (b ∷ (bs ++ more)) ≡ length (b ∷ bs) = is.runs more ∙ omega (arith, h) in
    rw (no_comment, no_quote, no_bracket) (ap (cut_at (b ∷ (bs ++ more))) size ∙ cut (b ∷ bs) more)

-- no blank stands before a word
pub word_stays : (word more : List ℕ) → IsWord word → after_blanks (word ++ more) ≡ word ++ more
unfolding after_blanks
word_stays [] more is = let none : [] ≡ is.first ∷ is.rest = is.spelled in cc
word_stays (b ∷ bs) more is =
    let edge = begins_so b bs is in
    let no_blank : is_blank b ≡ false = grind (arith, nat_tests, edge) in
    rw no_blank refl

-- what is left of a line where these words are
abbrev pub left : List (List ℕ) → List ℕ
left words = after_blanks (spaced words)

pub left_more : (word : List ℕ) (words : List (List ℕ)) → IsWord word → left (word ∷ words) ≡ word ++ spaced words
unfolding after_blanks
left_more word words is = word_stays word (spaced words) is

spaced_ends : (words : List (List ℕ)) → run_size false (spaced words) ≡ 0
unfolding run_size
spaced_ends [] = refl
spaced_ends (word ∷ words) = refl

-- the next word is read
pub next_word : (word : List ℕ) (words : List (List ℕ)) → IsWord word
    → word_in (left (word ∷ words)) ≡ Ok (word, left words)
next_word word words is = rw (left_more word words is) (word_read word (spaced words) is (spaced_ends words))

-- a word that stands at the front of a line
pub first_word : (word : List ℕ) (words : List (List ℕ)) → IsWord word
    → word_in (word ++ spaced words) ≡ Ok (word, left words)
first_word word words is = word_read word (spaced words) is (spaced_ends words)

-- more than a comment is left
pub never_over : (text more : List ℕ) → IsWord text → is_over (text ++ more) ≡ false
never_over [] more is = let none : [] ≡ is.first ∷ is.rest = is.spelled in cc
never_over (b ∷ bs) more is = let edge = begins_so b bs is in grind (arith, nat_tests, edge)

-- ---- words of bytes that mean themselves

abbrev pub is_plain_byte : ℕ → Bool
is_plain_byte byte = not (ends_word byte) && not (byte == backslash)

abbrev pub is_plain : List ℕ → Bool
is_plain word = list_all is_plain_byte word

pub not_so : (b : Bool) → not b ≡ true → b ≡ false
not_so true h = cc
not_so false h = refl

run_plain : (word more : List ℕ) → is_plain word ≡ true
    → run_size false (word ++ more) ≡ length word + run_size false more
unfolding run_size
run_plain [] more h = omega arith
run_plain (b ∷ bs) more h =
    let parts = and_parts (is_plain_byte b) (is_plain bs) h in
    let tests = and_parts (not (ends_word b)) (not (b == backslash)) parts.0 in
    let edge : ends_word b ≡ false = not_so (ends_word b) tests.0 in
    let slash : (b == backslash) ≡ false = not_so (b == backslash) tests.1 in
    let rest = run_plain bs more parts.1 in
    rw (edge, slash) (omega (arith, rest))

pub plain_word : (word : List ℕ) → is_plain word ≡ true → 0 < length word → IsWord word
plain_word [] h some = absurd (omega arith)
plain_word (b ∷ bs) h some =
    let parts = and_parts (is_plain_byte b) (is_plain bs) h in
    let tests = and_parts (not (ends_word b)) (not (b == backslash)) parts.0 in
    record {
      first = b;
      rest = bs;
      spelled = refl;
      begins = not_so (ends_word b) tests.0;
      runs = λ more. run_plain (b ∷ bs) more h;
    }

digit_plain : (c : ℕ) → is_ascii_digit c ≡ true → is_plain_byte c ≡ true
digit_plain c h = grind (arith, nat_tests)

digits_plain : (ds : List ℕ) → all_ascii_digits ds ≡ true → is_plain ds ≡ true
digits_plain [] h = refl
digits_plain (c ∷ cs) h =
    let parts = and_parts (is_ascii_digit c) (all_ascii_digits cs) h in
    rw (digit_plain c parts.0) (digits_plain cs parts.1)

decimal_plain : (n : ℕ) → n < 2 ^ 64 → is_plain (decimal n) ≡ true
decimal_plain n h = digits_plain (decimal n) (digits_decimal own n h)

pub decimal_is_word : (n : ℕ) → n < 2 ^ 64 → IsWord (decimal n)
decimal_is_word n h = plain_word (decimal n) (decimal_plain n h) (decimal_nonempty n h)

-- ---- hexadecimal digits

hex_plain : (c : ℕ) → is_hex_digit c ≡ true → is_plain_byte c ≡ true
hex_plain c h = grind (arith, nat_tests)

hexes_plain : (ds : List ℕ) → list_all is_hex_digit ds ≡ true → is_plain ds ≡ true
hexes_plain [] h = refl
hexes_plain (c ∷ cs) h =
    let parts = and_parts (is_hex_digit c) (list_all is_hex_digit cs) h in
    rw (hex_plain c parts.0) (hexes_plain cs parts.1)

pub octets_plain : (bytes : List ℕ) → is_bytes bytes ≡ true → is_plain (octets_word bytes) ≡ true
unfolding octets_word
octets_plain [] h = refl
octets_plain (b ∷ bs) h =
    hexes_plain (encode_lower (b ∷ bs))
    (list_all-from_AllPass is_hex_digit _
    (decode_of-ok _ _ (decode_of-encode_lower (b ∷ bs) (bytes_below (b ∷ bs) h))).1)

-- ---- types and classes

own_plain : (rows : List Row) (n : ℕ) (other : List ℕ) → list_all (λ row. is_plain row.1) rows ≡ true
    → is_plain other ≡ true
    → is_plain (unwrap_or (own_word rows n) other) ≡ true
unfolding own_word
own_plain [] n other rows_are is = is
own_plain (row ∷ rows) n other rows_are is =
    let parts = and_parts (is_plain row.1) (list_all (λ row. is_plain row.1) rows) rows_are in
    elim (cases_Bool (row.0 == n)) [
      | inl same ↦ rw same parts.0
      | inr apart ↦ rw apart (own_plain rows n other parts.1 is)
    ]

pub plain_append : (a b : List ℕ) → is_plain a ≡ true → is_plain b ≡ true → is_plain (a ++ b) ≡ true
plain_append a b first second = rw (list_all-append is_plain_byte a b, first, second) refl

-- words of rows, or another, have a byte
own_some : (rows : List Row) (n : ℕ) (other : List ℕ) → list_all (λ row. nat_lt 0 (length row.1)) rows ≡ true
    → 0 < length other → 0 < length (unwrap_or (own_word rows n) other)
unfolding own_word
own_some [] n other rows_are some = some
own_some (row ∷ rows) n other rows_are some =
    let parts = and_parts (nat_lt 0 (length row.1)) (list_all (λ row. nat_lt 0 (length row.1)) rows) rows_are in
    elim (cases_Bool (row.0 == n)) [
      | inl same ↦ rw same (grind (arith, nat_tests, parts.0))
      | inr apart ↦ rw apart (own_some rows n other parts.1 some)
    ]

type_some : (n : ℕ) → n ≤ 65535 → 0 < length (type_text n)
unfolding type_text type_word
type_some n within =
    own_some further_rows n (type_word n) refl
    (own_some type_rows n (codes "TYPE" ++ decimal n) refl (omega (arith, length-append (codes "TYPE") (decimal n))))

class_some : (n : ℕ) → n ≤ 65535 → 0 < length (class_word n)
unfolding class_word
class_some n within =
    own_some class_rows n (codes "CLASS" ++ decimal n) refl (omega (arith, length-append (codes "CLASS") (decimal n)))

pub type_plain : (n : ℕ) → n ≤ 65535 → is_plain (type_text n) ≡ true
unfolding type_text type_word
type_plain n within =
    own_plain further_rows n (type_word n) refl
    (own_plain type_rows n (codes "TYPE" ++ decimal n) refl
    (plain_append (codes "TYPE") (decimal n) refl (decimal_plain n (omega arith))))

class_plain : (n : ℕ) → n ≤ 65535 → is_plain (class_word n) ≡ true
unfolding class_word
class_plain n within =
    own_plain class_rows n (codes "CLASS" ++ decimal n) refl
    (plain_append (codes "CLASS") (decimal n) refl (decimal_plain n (omega arith)))

pub type_is_word : (n : ℕ) → n ≤ 65535 → IsWord (type_text n)
type_is_word n within = plain_word (type_text n) (type_plain n within) (type_some n within)

pub class_is_word : (n : ℕ) → n ≤ 65535 → IsWord (class_word n)
class_is_word n within = plain_word (class_word n) (class_plain n within) (class_some n within)

-- ---- times, addresses and tags

pub time_is_word : (n : ℕ) → IsWord (time_text n)
time_is_word n =
    let size = time_size n in
    plain_word (time_text n) (digits_plain (time_text n) (time_digits n)) (omega (arith, size))

all_plain : (P : ℕ → Type 0) (word : List ℕ) → All P word → ((c : ℕ) → P c → is_plain_byte c ≡ true)
    → is_plain word ≡ true
all_plain P word all each =
    list_all-from_AllPass is_plain_byte word (All-weaker P (λ c. is_plain_byte c ≡ true) each word all)

-- digits and dots
ipv4_byte : (c : ℕ) → IsDigitOrDot c → is_plain_byte c ≡ true
ipv4_byte c h = grind (arith, nat_tests)

-- hexadecimal digits and colons
ipv6_byte : (c : ℕ) → IsHexOrColon c → is_plain_byte c ≡ true
ipv6_byte c h = grind (arith, nat_tests)

pub ipv4_plain : (octets : List ℕ) → ((k : ℕ) → get_or octets k 0 < 2 ^ 8) → is_plain (ipv4_text octets) ≡ true
ipv4_plain octets below = all_plain IsDigitOrDot (ipv4_text octets) (All-ipv4_text octets below) ipv4_byte

pub ipv6_plain : (segments : List ℕ) → AllSegments segments → is_plain (ipv6_text segments) ≡ true
unfolding ipv6_text
ipv6_plain segments below =
    elim (cases_Bool (bytes_eq (take 6 segments) (0 ∷ 0 ∷ 0 ∷ 0 ∷ 0 ∷ 0xffff ∷ []))) [
      | inl mapped ↦
          let octets = octets_of (drop 6 segments) in
          let last = ipv4_plain octets (octets_below (drop 6 segments) (AllSegments-drop 6 segments below)) in
          rw mapped (plain_append (codes "::ffff:") (ipv4_text octets) refl last)
      | inr groups ↦
          rw groups
          (all_plain IsHexOrColon (hex_groups_text segments) (All-hex_groups_text segments below) ipv6_byte)
    ]
  where
    octets_below : (segments : List ℕ) → AllSegments segments → (k : ℕ) → get_or (octets_of segments) k 0 < 2 ^ 8
    octets_below [] below k = omega arith
    octets_below (s ∷ segments) below zero = let small : s < 65536 = below 0 in omega arith
    octets_below (s ∷ segments) below (suc zero) = omega arith
    octets_below (s ∷ segments) below (suc (suc k)) = octets_below segments (λ i. below (suc i)) k

-- letters and digits
pub alphanumeric_plain : (word : List ℕ) → list_all is_ascii_alphanumeric word ≡ true → is_plain word ≡ true
alphanumeric_plain [] h = refl
alphanumeric_plain (c ∷ cs) h =
    let parts = and_parts (is_ascii_alphanumeric c) (list_all is_ascii_alphanumeric cs) h in
    rw (plain_letter c parts.0) (alphanumeric_plain cs parts.1)
  where
    plain_letter : (c : ℕ) → is_ascii_alphanumeric c ≡ true → is_plain_byte c ≡ true
    plain_letter c h = grind (arith, nat_tests)

-- a word of bytes that mean themselves isn't `\#`
pub plain_unmarked : (word : List ℕ) → is_plain word ≡ true → bytes_eq word (codes "\\#") ≡ false
plain_unmarked [] h = refl
plain_unmarked (c ∷ cs) h =
    let parts = and_parts (is_plain_byte c) (is_plain cs) h in
    let tests = and_parts (not (ends_word c)) (not (c == backslash)) parts.0 in
    let slash : nat_eq c 92 ≡ false = not_so (c == backslash) tests.1 in
    rw slash refl
