-- A word that is written is read as what it was written for.
use Rattle.std.proofs.Common.{◌≡◌, ℕ, zero, suc, ◌^◌, ◌-◌, ◌/◌, ◌%◌, ◌<◌, ◌≤◌, Bool, true, false, not, nat_lt, List, [], ◌∷◌, length, map, slice_index, codes, Option, None, Some, refl, ap, arith, inl, inr}
use Rattle.std.specs.Fmt.{decimal}
use Rattle.std.specs.Char.{is_ascii_uppercase}
use Rattle.std.specs.List.{list_all, list_any}
use Rattle.std.specs.Result.{result_ok}
use Rattle.std.specs.Cmp.Lexicographic.{bytes_decides}
use Rattle.std.proofs.lemmas.Bool.{and_parts, cases_Bool, ltb-true}
use Rattle.hex.specs.Hex.{encode_with, encode_lower, lower_digits, IsBytes}
use Rattle.dns_model.specs.Bytes.{is_bytes}
use Rattle.dns_model.specs.Keys.{bytes_eq}
use Rattle.dns_model.specs.Names.{Labels, is_name}
use Rattle.dns_model.specs.NameText.{printed}
use Rattle.dns_model.specs.declared.proof.Proof.{Proof}
use Rattle.dns_model.specs.declared.proof.Proof.TheVariants.{Secure, Insecure, Bogus, Indeterminate}
use Rattle.dns_model.specs.declared.section.Section.{Section}
use Rattle.dns_model.specs.declared.section.Section.TheVariants.{Answer, Authority, Additional}
use Rattle.dns_model.specs.declared.trail.AskRef.{AskRef}
use Rattle.dns_model.specs.declared.trail.AskRef.TheVariants.{Step, TooDeep, TooMany}
use Rattle.dns_model.specs.declared.trail.MarkOrigin.{MarkOrigin}
use Rattle.dns_model.specs.declared.trail.MarkOrigin.TheVariants.{Table, Repeat, Cache}
use Rattle.dns_record.proofs.TextLemmas.{read_printed}
use Rattle.dns_record.specs.Words.{type_word, class_word}
use Rattle.dns_text.specs.Words.{name_word_in, octets_word, octets_in}
use Rattle.dns_text.specs.Codes.{type_word_in, class_word_in}
use Rattle.dns_text.proofs.WordLaws.{decimal_back, type_back, class_back}
use Rattle.dns_text.proofs.OctetLaws.{octets_back}
use Rattle.dns_report.specs.LineWords.{mark_word, section_word}
use Rattle.dns_report.specs.Fields.{fitting_name, is_u16, is_u32}
use Rattle.dns_report.specs.TrailView.{fitting_ask, fitting_origin}
use Rattle.dns_report.specs.TrailLines.{purpose_word, ask_word, origin_word, place_word}
use Rattle.dns_report.proofs.FieldWords.{below_u16, below_u32}
use Rattle.dns_report.proofs.TrailWords.{no_number, fitting_place}
use Rattle.dns_audit.specs.ReportWords.{u16_in, u32_in, rdata_in, mark_in, section_in, purpose_in, ask_in, origin_in, place_in}
use Rattle.dns_audit.specs.LineParts.{each_in}
use Rattle.dns_audit.specs.Written.{is_short}

pub mark_read : (mark : Proof) → mark_in (mark_word mark) ≡ Some mark
unfolding mark_in
mark_read Secure = refl
mark_read Insecure = refl
mark_read Bogus = refl
mark_read Indeterminate = refl

pub section_read : (section : Section) → section_in (section_word section) ≡ Some section
unfolding section_in
section_read Answer = refl
section_read Authority = refl
section_read Additional = refl

pub purpose_read : (judged : Bool) → purpose_in (purpose_word judged) ≡ Some judged
unfolding purpose_in
purpose_read true = refl
purpose_read false = refl

pub name_read : (name : Labels) → fitting_name name ≡ true → name_word_in (printed name) ≡ Some name
name_read name h =
    let parts = and_parts (is_name name) (list_all is_bytes name) h in
    ap result_ok (read_printed name parts.0 parts.1)

pub class_read : (n : ℕ) → is_u16 n ≡ true → class_word_in (class_word n) ≡ Some n
class_read n h = class_back n (below_u16 n h)

pub type_read : (n : ℕ) → is_u16 n ≡ true → type_word_in (type_word n) ≡ Some n
type_read n h = type_back n (below_u16 n h)

pub small_read : (n : ℕ) → is_u16 n ≡ true → u16_in (decimal n) ≡ Some n
small_read n h = let le = below_u16 n h in decimal_back (2 ^ 16 - 1) n (omega (arith, le)) (omega (arith, le))

u32_most : (n : ℕ) → is_u32 n ≡ true → n ≤ 4294967295
u32_most n h = let lt : n < 2 ^ 32 = ltb-true n (2 ^ 32) h in omega (arith, lt)

pub number_read : (n : ℕ) → is_u32 n ≡ true → u32_in (decimal n) ≡ Some n
number_read n h = decimal_back (2 ^ 32 - 1) n (u32_most n h) (below_u32 n h)

-- ---- rdatas

-- a byte that isn't a letter in upper case
abbrev is_other : ℕ → Bool
is_other c = not (is_ascii_uppercase c)

not_upper : (b : Bool) → not b ≡ true → b ≡ false
not_upper true h = cc h
not_upper false h = refl

index_passes : (p : ℕ → Bool) (xs : List ℕ) (n : ℕ) → list_all p xs ≡ true → n < length xs → p (slice_index xs n) ≡ true
index_passes p [] n h below = absurd (omega (arith, below))
index_passes p (x ∷ xs) zero h below = (and_parts (p x) (list_all p xs) h).0
index_passes p (x ∷ xs) (suc n) h below =
    index_passes p xs n (and_parts (p x) (list_all p xs) h).1 (omega (arith, below))

-- none of the digits by which bytes are written is in upper case
pub lower_digit : (n : ℕ) → n < 16 → is_ascii_uppercase (slice_index lower_digits n) ≡ false
lower_digit n h =
    let size : length lower_digits ≡ 16 = refl in
    let all : list_all is_other lower_digits ≡ true = refl in
    not_upper (is_ascii_uppercase (slice_index lower_digits n))
    (index_passes is_other lower_digits n all (omega (arith, h, size)))

lower_encoded : (bytes : List ℕ) → is_bytes bytes ≡ true → list_any is_ascii_uppercase (encode_lower bytes) ≡ false
unfolding encode_with
lower_encoded [] h = refl
lower_encoded (b ∷ bs) h =
    let parts = and_parts (nat_lt b 256) (is_bytes bs) h in
    let fits : b < 256 = ltb-true b 256 parts.0 in
    let high : is_ascii_uppercase (slice_index lower_digits (b / 16)) ≡ false = lower_digit (b / 16) (omega (arith, fits)) in
    let low : is_ascii_uppercase (slice_index lower_digits (b % 16)) ≡ false = lower_digit (b % 16) (omega arith) in
    let rest : list_any is_ascii_uppercase (encode_lower bs) ≡ false = lower_encoded bs parts.1 in
    rw (high, low, rest) refl

lower_word : (bytes : List ℕ) → is_bytes bytes ≡ true → list_any is_ascii_uppercase (octets_word bytes) ≡ false
unfolding octets_word
lower_word [] h = refl
lower_word (b ∷ bs) h = lower_encoded (b ∷ bs) h

bytes_below : (bytes : List ℕ) → is_bytes bytes ≡ true → IsBytes bytes
bytes_below [] h i = omega arith
bytes_below (b ∷ bs) h zero = let parts = and_parts (nat_lt b 256) (is_bytes bs) h in ltb-true b 256 parts.0
bytes_below (b ∷ bs) h (suc i) = let parts = and_parts (nat_lt b 256) (is_bytes bs) h in bytes_below bs parts.1 i

pub rdata_read : (bytes : List ℕ) → is_bytes bytes ≡ true → is_short bytes ≡ true
    → rdata_in (octets_word bytes) ≡ Some bytes
unfolding rdata_in
rdata_read bytes h short =
    let read : octets_in (octets_word bytes) ≡ Some bytes = octets_back bytes (bytes_below bytes h) in
    rw (read, short, lower_word bytes h) refl

-- ---- asks, origins and places

pub not_decimal : (n : ℕ) (word : List ℕ) → n < 2 ^ 64
    → (decimal n ≡ word → ⊥) → bytes_eq (decimal n) word ≡ false
not_decimal n word fits other =
    elim (cases_Bool (bytes_eq (decimal n) word)) [
      | inl is ↦ absurd (other ((bytes_decides (decimal n) word).0 is))
      | inr isnt ↦ isnt
    ]

pub ask_read : (ask : AskRef) → fitting_ask ask ≡ true → ask_in (ask_word ask) ≡ Some ask
unfolding ask_in
ask_read (Step n) h =
    let fits = below_u32 n h in
    let deep : bytes_eq (decimal n) (codes "deep") ≡ false =
    not_decimal n (codes "deep") fits (λ e. no_number n (codes "deep") fits refl e) in
    let many : bytes_eq (decimal n) (codes "many") ≡ false =
    not_decimal n (codes "many") fits (λ e. no_number n (codes "many") fits refl e) in
    rw (deep, many, number_read n h) refl
ask_read TooDeep h = refl
ask_read TooMany h = refl

pub origin_read : (origin : MarkOrigin) → fitting_origin origin ≡ true → origin_in (origin_word origin) ≡ Some origin
unfolding origin_in
origin_read Table h = refl
origin_read (Repeat n) h = rw (number_read n h) refl
origin_read Cache h = refl

pub place_read : (place : Option ℕ) → fitting_place place ≡ true → place_in (place_word place) ≡ Some place
unfolding place_in
place_read None h = refl
place_read (Some n) h =
    let fits = below_u32 n h in
    let dash : bytes_eq (decimal n) (codes "-") ≡ false = not_decimal n (codes "-") fits (λ e. no_number n (codes "-") fits refl e) in
    rw (dash, number_read n h) refl

-- ---- lists of words

-- a word for each value of a list
pub each_read : {X : Type 0} (kind : List ℕ → Option X) (word : X → List ℕ) (fits : X → Bool)
    → ((x : X) → fits x ≡ true → kind (word x) ≡ Some x)
    → (xs : List X) → list_all fits xs ≡ true → each_in kind (map word xs) ≡ Some xs
unfolding each_in
each_read kind word fits one [] h = refl
each_read kind word fits one (x ∷ xs) h =
    let parts = and_parts (fits x) (list_all fits xs) h in
    rw (one x parts.0, each_read kind word fits one xs parts.1) refl

pub asks_read : (asks : List AskRef) → list_all fitting_ask asks ≡ true → each_in ask_in (map ask_word asks) ≡ Some asks
asks_read = each_read ask_in ask_word fitting_ask ask_read

pub rdatas_read : (rdatas : List (List ℕ)) → list_all is_bytes rdatas ≡ true → list_all is_short rdatas ≡ true
    → each_in rdata_in (map octets_word rdatas) ≡ Some rdatas
unfolding each_in
rdatas_read [] h short = refl
rdatas_read (r ∷ rs) h short =
    let parts = and_parts (is_bytes r) (list_all is_bytes rs) h in
    let sizes = and_parts (is_short r) (list_all is_short rs) short in
    rw (rdata_read r parts.0 sizes.0, rdatas_read rs parts.1 sizes.1) refl
