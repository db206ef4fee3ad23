-- A word that is read as a name, a code or bytes is the one that would be written, or spells that name; and what is
-- read fits into its field.
use Rattle.std.proofs.Common.{◌≡◌, ℕ, suc, ◌+◌, ◌-◌, ◌*◌, ◌/◌, ◌%◌, ◌^◌, ◌<◌, ◌≤◌, Bool, true, false, not, ◌==◌, ◌&&◌, nat_lt, nat_le, List, [], ◌∷◌, ◌++◌, length, slice_index, codes, Option, None, Some, is_some, Result, Ok, Err, if◌then◌else◌, ◌⊎◌, refl, sym, ap, subst, ◌∙◌, arith, inl, inr}
use Rattle.std.specs.Prelude.{nat_eq}
use Rattle.std.specs.Fmt.{decimal}
use Rattle.std.specs.Char.{is_ascii_uppercase}
use Rattle.std.specs.List.{list_all, list_any}
use Rattle.std.specs.Option.{option_or, option_map_or}
use Rattle.std.specs.Str.Parse.{digits_value}
use Rattle.std.specs.Cmp.Lexicographic.{pointwise}
use Rattle.std.proofs.lemmas.Bool.{and_parts, cases_Bool, leb-true, lt-ltb, or_parts}
use Rattle.std.proofs.lemmas.Bool.Decides.{nat_tests}
use Rattle.std.proofs.lemmas.List.Folds.{list_all-append}
use Rattle.std.proofs.lemmas.Option.{same_Some}
use Rattle.hex.specs.Hex.{encode_with, encode_lower, lower_digits, decode_of, decode_pairs, hex_digit_value, value_at, digit_or_error, pair_value, IsBytes}
use Rattle.hex.specs.Hex as hex
use Rattle.hex.specs.declared.error.FromHexError.{FromHexError}
use Rattle.hex.proofs.HexLemmas.{IsDigits-lower_digits, decode_of-even, decode_of-ok}
use Rattle.dns_model.specs.Bytes.{is_bytes}
use Rattle.dns_model.specs.Keys.{bytes_eq}
use Rattle.dns_model.specs.Names.{Label, Labels, wire, is_label}
use Rattle.dns_model.specs.NameText.{dot, backslash, is_digit, is_printable, number_of_digits, number_in, escape_in, byte_in, Read, label_checked, ended, after_dot, step_in, labels_read, text_read, within, read_name}
use Rattle.dns_model.specs.declared.name_error.NameError.{NameError}
use Rattle.dns_model.specs.declared.name_error.NameError.TheVariants.{BadEscape, LongName}
use Rattle.dns_record.proofs.ReadSteps.{checked_is}
use Rattle.dns_record.specs.Words.{Row, type_rows, class_rows, own_word, own_number, type_word, class_word}
use Rattle.dns_text.specs.Words.{is_decimal, decimal_in, octets_word, octets_in, hex_in, name_word_in}
use Rattle.dns_text.specs.Codes.{after_prefix, prefixed_in, type_word_in, class_word_in}
use Rattle.dns_text.proofs.WordLaws.{decimal_from, type_from, class_from}
use Rattle.dns_report.specs.Fields.{fitting_name, is_u16, is_u32}
use Rattle.dns_audit.specs.ReportWords.{u16_in, u32_in, if_rdata, rdata_in}
use Rattle.dns_audit.specs.Written.{is_short}
use Rattle.dns_audit.proofs.FromSteps.{made, Given, given, same_ok, ok_some, chosen, passed, by_word}
use Rattle.dns_audit.proofs.WrittenWords.{lower_digit}

-- ---- numbers

within_from : (limit n : ℕ) (word : List ℕ) → decimal_in limit word ≡ Some n → n ≤ limit
unfolding decimal_in
within_from limit n word h =
    let ok = passed (is_decimal word && nat_le (digits_value 10 word) limit) (digits_value 10 word) n h in
    let parts = and_parts (is_decimal word) (nat_le (digits_value 10 word) limit) ok.0 in
    let le : digits_value 10 word ≤ limit = leb-true (digits_value 10 word) limit parts.1 in
    let same : digits_value 10 word ≡ n = ok.1 in
    omega (arith, le, same)

pub small_from : (word : List ℕ) (n : ℕ) → u16_in word ≡ Some n → (word ≡ decimal n) × (is_u16 n ≡ true)
small_from word n h =
    let le = within_from (2 ^ 16 - 1) n word h in
    (decimal_from (2 ^ 16 - 1) n word (omega arith) h, lt-ltb n (2 ^ 16) (omega (arith, le)))

pub number_from : (word : List ℕ) (n : ℕ) → u32_in word ≡ Some n → (word ≡ decimal n) × (is_u32 n ≡ true)
number_from word n h =
    let le = within_from (2 ^ 32 - 1) n word h in
    (decimal_from (2 ^ 32 - 1) n word (omega arith) h, lt-ltb n (2 ^ 32) (omega (arith, le)))

-- ---- codes

-- each row has a number of 16 bits
abbrev small_rows : List Row → Bool
small_rows rows = list_all (λ (row : Row). is_u16 row.0) rows

row_small : (rows : List Row) (word : List ℕ) (n : ℕ) → small_rows rows ≡ true → own_number rows word ≡ Some n
    → is_u16 n ≡ true
unfolding own_number
row_small [] word n small h = cc
row_small (row ∷ rows) word n small h =
    let parts = and_parts (is_u16 row.0) (small_rows rows) small in
    elim (cases_Bool (bytes_eq row.1 word)) [
      | inl is ↦ let same : row.0 ≡ n = same_Some row.0 n (rw is at h) in rw (← same) parts.0
      | inr isnt ↦ row_small rows word n parts.1 (rw isnt at h)
    ]

unnamed : (b : Bool) (m n : ℕ) → (if b then None else Some m) ≡ Some n → m ≡ n
unnamed true m n h = cc
unnamed false m n h = same_Some m n h

prefixed_small : (rows : List Row) (prefix word : List ℕ) (n : ℕ) → prefixed_in rows prefix word ≡ Some n
    → is_u16 n ≡ true
prefixed_small rows prefix word n h =
    let rest = made (after_prefix prefix word) _ n h in
    let number = made (decimal_in 65535 rest.value) _ n rest.gives in
    let same : number.value ≡ n = unnamed (is_some (own_word rows number.value)) number.value n number.gives in
    let le = within_from 65535 number.value rest.value number.was in
    lt-ltb n (2 ^ 16) (omega (arith, le, same))

code_by : (rows : List Row) (prefix word : List ℕ) (n : ℕ) (named : Option ℕ) → small_rows rows ≡ true
    → own_number rows word ≡ named → option_or named (prefixed_in rows prefix word) ≡ Some n → is_u16 n ≡ true
code_by rows prefix word n (Some m) small e h = row_small rows word n small (e ∙ h)
code_by rows prefix word n None small e h = prefixed_small rows prefix word n h

pub type_read_from : (word : List ℕ) (n : ℕ) → type_word_in word ≡ Some n → (word ≡ type_word n) × (is_u16 n ≡ true)
unfolding type_word_in
type_read_from word n h =
    (type_from word n h, code_by type_rows (codes "TYPE") word n (own_number type_rows word) refl refl h)

pub class_read_from : (word : List ℕ) (n : ℕ) → class_word_in word ≡ Some n → (word ≡ class_word n) × (is_u16 n ≡ true)
unfolding class_word_in
class_read_from word n h =
    (class_from word n h, code_by class_rows (codes "CLASS") word n (own_number class_rows word) refl refl h)

-- ---- octets

-- a digit that isn't a letter in upper case, by its value
lower_value : (c v : ℕ) → hex_digit_value c ≡ Some v → is_ascii_uppercase c ≡ false
    → ((c ≡ v + 48) × (v < 10)) ⊎ ((c ≡ v + 87) × (9 < v))
lower_value c v h lower =
    elim (chosen (nat_le 65 c && nat_le c 70) (Some (c - 55)) _ v h) [
      | inl a ↦
          let p = and_parts (nat_le 65 c) (nat_le c 70) a.0 in
          let low : 65 ≤ c = leb-true 65 c p.0 in
          let high : c ≤ 70 = leb-true c 70 p.1 in
          let upper : is_ascii_uppercase c ≡ true = grind (arith, nat_tests) in
          let no : false ≡ true = sym lower ∙ upper in
          cc
      | inr rest ↦
          elim (chosen (nat_le 97 c && nat_le c 102) (Some (c - 87)) _ v rest.1) [
            | inl b ↦
                let p = and_parts (nat_le 97 c) (nat_le c 102) b.0 in
                let low : 97 ≤ c = leb-true 97 c p.0 in
                let same : c - 87 ≡ v = same_Some (c - 87) v b.1 in
                inr (omega (arith, low, same), omega (arith, low, same))
            | inr last ↦
                let d = passed (nat_le 48 c && nat_le c 57) (c - 48) v last.1 in
                let p = and_parts (nat_le 48 c) (nat_le c 57) d.0 in
                let low : 48 ≤ c = leb-true 48 c p.0 in
                let high : c ≤ 57 = leb-true c 57 p.1 in
                let same : c - 48 ≡ v = d.1 in
                inl (omega (arith, low, same), omega (arith, low, high, same))
          ]
    ]

-- so it is the digit that is written for this value
digit_back : (c v : ℕ) → hex_digit_value c ≡ Some v → is_ascii_uppercase c ≡ false → v < 16
    → slice_index lower_digits v ≡ c
digit_back c v h lower small =
    let mine = lower_value c v h lower in
    let its = lower_value (slice_index lower_digits v) v (IsDigits-lower_digits v small) (lower_digit v small) in
    elim mine [
      | inl a ↦ elim its [
        | inl b ↦ b.0 ∙ sym a.0
        | inr b ↦ absurd (omega (arith, a.1, b.1))
      ]
      | inr a ↦ elim its [
        | inl b ↦ absurd (omega (arith, a.1, b.1))
        | inr b ↦ b.0 ∙ sym a.0
      ]
    ]

hex_bound : {A B : Type 0} (r : Result A FromHexError) (more : A → Result B FromHexError) (y : B)
    → hex.◌>>=◌ r more ≡ Ok y → Given r more y
hex_bound (Ok x) more y h = record { value = x; was = refl; gives = h }
hex_bound (Err e) more y h = cc

digit_was : (c i : ℕ) (o : Option ℕ) (v : ℕ) → digit_or_error c i o ≡ Ok v → o ≡ Some v
digit_was c i (Some w) v h = ap Some (same_ok w v h)
digit_was c i None v h = cc

value_small : (c v : ℕ) → hex_digit_value c ≡ Some v → v < 16
value_small c v h = grind (arith)

pairs_back : (i : ℕ) (word bytes : List ℕ) → decode_pairs i word ≡ Ok bytes → list_any is_ascii_uppercase word ≡ false
    → encode_lower bytes ≡ word
unfolding decode_pairs encode_with
pairs_back i [] bytes h lower = let e : [] ≡ bytes = same_ok [] bytes h in rw (← e) refl
pairs_back i (a ∷ []) bytes h lower = cc
pairs_back i (a ∷ b ∷ rest) bytes h lower =
    let byte = hex_bound (pair_value a b i) _ bytes h in
    let high = hex_bound (value_at a i) _ byte.value byte.was in
    let low = hex_bound (value_at b (i + 1)) _ byte.value high.gives in
    let others = hex_bound (decode_pairs (i + 2) rest) _ bytes byte.gives in
    let lowers = or_parts (is_ascii_uppercase a) (list_any is_ascii_uppercase (b ∷ rest)) lower in
    let more = or_parts (is_ascii_uppercase b) (list_any is_ascii_uppercase rest) lowers.1 in
    let ih : encode_lower others.value ≡ rest = pairs_back (i + 2) rest others.value others.was more.1 in
    let va = digit_was a i (hex_digit_value a) high.value high.was in
    let vb = digit_was b (i + 1) (hex_digit_value b) low.value low.was in
    let small_a = value_small a high.value va in
    let small_b = value_small b low.value vb in
    let sum : high.value * 16 + low.value ≡ byte.value = same_ok _ byte.value low.gives in
    let first : byte.value / 16 ≡ high.value = omega (arith, sum, small_a, small_b) in
    let second : byte.value % 16 ≡ low.value = omega (arith, sum, small_a, small_b) in
    let e : byte.value ∷ others.value ≡ bytes = same_ok _ bytes others.gives in
    let one : slice_index lower_digits high.value ≡ a = digit_back a high.value va lowers.0 small_a in
    let two : slice_index lower_digits low.value ≡ b = digit_back b low.value vb more.0 small_b in
    subst (λ (bs : List ℕ). encode_lower bs ≡ a ∷ b ∷ rest) e (rw (first, second, one, two, ih) refl)

bytes_are : (xs : List ℕ) → IsBytes xs → is_bytes xs ≡ true
bytes_are [] h = refl
bytes_are (x ∷ xs) h =
    let first : nat_lt x 256 ≡ true = lt-ltb x 256 (h 0) in
    let more : is_bytes xs ≡ true = bytes_are xs (λ i. h (suc i)) in
    rw (first, more) refl

listed_word : (c : ℕ) (cs bytes : List ℕ) → length (c ∷ cs) ≡ 2 * length bytes → encode_lower bytes ≡ c ∷ cs
    → c ∷ cs ≡ octets_word bytes
unfolding octets_word
listed_word c cs [] size h = absurd (omega (arith, size))
listed_word c cs (b ∷ bs) size h = sym h

hex_from : (word bytes : List ℕ) → hex_in word ≡ Some bytes → list_any is_ascii_uppercase word ≡ false
    → (word ≡ octets_word bytes) × (is_bytes bytes ≡ true)
hex_from [] bytes h lower = cc
hex_from (c ∷ cs) bytes h lower =
    let read : decode_of (c ∷ cs) ≡ Ok bytes = ok_some (decode_of (c ∷ cs)) bytes h in
    let ok = decode_of-ok (c ∷ cs) bytes read in
    let pairs : decode_pairs 0 (c ∷ cs) ≡ Ok bytes = sym (decode_of-even (c ∷ cs) ok.0) ∙ read in
    (listed_word c cs bytes ok.2 (pairs_back 0 (c ∷ cs) bytes pairs lower), bytes_are bytes ok.3)

octets_from : (word bytes : List ℕ) → octets_in word ≡ Some bytes → list_any is_ascii_uppercase word ≡ false
    → (word ≡ octets_word bytes) × (is_bytes bytes ≡ true)
unfolding octets_in octets_word
octets_from word bytes h lower =
    elim (by_word word (codes "-") (Some []) (hex_in word) bytes h) [
      | inl none ↦ let e : [] ≡ bytes = same_Some [] bytes none.1 in rw (← e) (none.0, refl)
      | inr some ↦ hex_from word bytes some lower
    ]

not_any : (b : Bool) → not b ≡ true → b ≡ false
not_any true h = cc h
not_any false h = refl

-- what is read of an rdata's word
pub record RdataRead (word bytes : List ℕ) : Type 0 where
  pub word_is : word ≡ octets_word bytes
  pub bytes_are : is_bytes bytes ≡ true
  pub short : is_short bytes ≡ true

pub rdata_from : (word bytes : List ℕ) → rdata_in word ≡ Some bytes → RdataRead word bytes
unfolding rdata_in
rdata_from word bytes h =
    let read = made (octets_in word) (if_rdata word) bytes h in
    let ok = passed (nat_le (length read.value) 65535 && not (list_any is_ascii_uppercase word)) read.value bytes
    read.gives in
    let parts = and_parts (nat_le (length read.value) 65535) (not (list_any is_ascii_uppercase word)) ok.0 in
    let is = octets_from word bytes (read.was ∙ ap Some ok.1) (not_any (list_any is_ascii_uppercase word) parts.1) in
    record { word_is = is.0; bytes_are = is.1; short = ap is_short (sym ok.1) ∙ parts.0 }

-- ---- names

-- a byte that stands for itself
abbrev plain_byte : ℕ → List ℕ → Option (ℕ × List ℕ)
plain_byte byte rest = if is_printable byte then Some (byte, rest) else None

printable_small : (byte v : ℕ) (rest more : List ℕ) → plain_byte byte rest ≡ Some (v, more) → v < 256
printable_small byte v rest more h =
    let ok = passed {X = ℕ × List ℕ} (is_printable byte) (byte, rest) (v, more) h in
    let parts = and_parts (nat_le 33 byte) (nat_le byte 126) ok.0 in
    let le : byte ≤ 126 = leb-true byte 126 parts.1 in
    let same : byte ≡ v = ap (λ (p : ℕ × List ℕ). p.0) ok.1 in
    omega (arith, le, same)

number_small : (a v : ℕ) (text more : List ℕ) → number_in a text ≡ Some (v, more) → v < 256
unfolding number_in
number_small a v [] more h = cc
number_small a v (b ∷ []) more h = cc
number_small a v (b ∷ c ∷ rest) more h =
    let n = number_of_digits a b c in
    let ok = passed {X = ℕ × List ℕ} (is_digit b && is_digit c && nat_le n 255) (n, rest) (v, more) h in
    let parts = and_parts (is_digit b && is_digit c) (nat_le n 255) ok.0 in
    let le : n ≤ 255 = leb-true n 255 parts.1 in
    let same : n ≡ v = ap (λ (p : ℕ × List ℕ). p.0) ok.1 in
    omega (arith, le, same)

escape_small : (v : ℕ) (text more : List ℕ) → escape_in text ≡ Some (v, more) → v < 256
unfolding escape_in
escape_small v [] more h = cc
escape_small v (byte ∷ rest) more h =
    elim (chosen (is_digit byte) (number_in byte rest) (plain_byte byte rest) (v, more) h) [
      | inl digits ↦ number_small byte v rest more digits.1
      | inr other ↦ printable_small byte v rest more other.1
    ]

byte_small : (byte v : ℕ) (rest more : List ℕ) → byte_in byte rest ≡ Some (v, more) → v < 256
unfolding byte_in
byte_small byte v rest more h =
    elim (chosen (byte == backslash) (escape_in rest) (plain_byte byte rest) (v, more) h) [
      | inl escaped ↦ escape_small v rest more escaped.1
      | inr plain ↦ printable_small byte v rest more plain.1
    ]

-- labels of a name, of bytes
abbrev GoodLabels : Labels → Type 0
GoodLabels name = (list_all is_label name ≡ true) × (list_all is_bytes name ≡ true)

-- what is read of a text is good, whatever is read after it
abbrev ReadsGood : Read → Type 0
ReadsGood read = (name : Labels) (dotted : Bool) → read ≡ Ok (name, dotted) → GoodLabels name

none_good : (dotted : Bool) → ReadsGood (Ok ([], dotted))
none_good dotted name d h =
    let e : [] ≡ name =
    ap (λ (p : Labels × Bool). p.0) (same_ok ([], dotted) (name, d) h) in subst GoodLabels e (refl, refl)

ended_good : (label : Label) (more : Read) → is_bytes label ≡ true → ReadsGood more → ReadsGood (ended label more)
ended_good label more bytes good name dotted h =
    let first = given (label_checked label) _ (name, dotted) h in
    let others = given more _ (name, dotted) first.gives in
    let is = checked_is label first.value first.was in
    let rest = good others.value.0 others.value.1 others.was in
    let e : first.value ∷ others.value.0 ≡ name =
    ap (λ (p : Labels × Bool). p.0) (same_ok _ (name, dotted) others.gives) in
    let sized : is_label first.value ≡ true = subst (λ (l : Label). is_label l ≡ true) is.1 is.0 in
    let filled : is_bytes first.value ≡ true = subst (λ (l : Label). is_bytes l ≡ true) is.1 bytes in
    subst GoodLabels e (rw (sized, rest.0) refl, rw (filled, rest.1) refl)

dotted_good : (more : Label → List ℕ → Read) (text : List ℕ) → ((text : List ℕ) → ReadsGood (more [] text))
    → ReadsGood (after_dot more text)
dotted_good more [] good name dotted h = none_good true name dotted h
dotted_good more (byte ∷ rest) good name dotted h = good (byte ∷ rest) name dotted h

byte_good : (more : Label → List ℕ → Read) (label : Label) (byte : ℕ) (rest : List ℕ) (said : Option (ℕ × List ℕ))
    → is_bytes label ≡ true → ((label : Label) (text : List ℕ) → is_bytes label ≡ true → ReadsGood (more label text))
    → byte_in byte rest ≡ said
    → ReadsGood (option_map_or (λ (b : ℕ × List ℕ). more (label ++ b.0 ∷ []) b.1) said (Err BadEscape))
byte_good more label byte rest None bytes good e name dotted h = cc
byte_good more label byte rest (Some b) bytes good e name dotted h =
    let small : nat_lt b.0 256 ≡ true = lt-ltb b.0 256 (byte_small byte b.0 rest b.1 e) in
    let all : is_bytes (label ++ b.0 ∷ []) ≡ true =
    rw (list_all-append (λ b. nat_lt b 256) label (b.0 ∷ []), bytes, small) refl in
    good (label ++ b.0 ∷ []) b.1 all name dotted h

step_good : (more : Label → List ℕ → Read) (label : Label) (text : List ℕ) → is_bytes label ≡ true
    → ((label : Label) (text : List ℕ) → is_bytes label ≡ true → ReadsGood (more label text))
    → ReadsGood (step_in more label text)
step_good more label [] bytes good name dotted h =
    ended_good label (Ok ([], false)) bytes (none_good false) name dotted h
step_good more label (byte ∷ rest) bytes good name dotted h =
    elim (cases_Bool (byte == dot)) [
      | inl is ↦
          ended_good label (after_dot more rest) bytes (dotted_good more rest (λ text. good [] text refl)) name dotted
          (rw is at h)
      | inr isnt ↦ byte_good more label byte rest (byte_in byte rest) bytes good refl name dotted (rw isnt at h)
    ]

labels_good : (bound : List ℕ) (label : Label) (text : List ℕ) → is_bytes label ≡ true
    → ReadsGood (labels_read bound label text)
unfolding labels_read
labels_good [] label text bytes name dotted h = cc
labels_good (b ∷ bound) label text bytes name dotted h =
    step_good (labels_read bound) label text bytes (labels_good bound) name dotted h

text_good : (text : List ℕ) → ReadsGood (text_read text)
unfolding text_read
text_good text name dotted h =
    elim (cases_Bool (pointwise nat_eq text (dot ∷ []))) [
      | inl is ↦ none_good true name dotted (rw is at h)
      | inr isnt ↦ labels_good (0 ∷ text) [] text refl name dotted (rw isnt at h)
    ]

within_good : (read name : Labels) → GoodLabels read → within read ≡ Ok name → fitting_name name ≡ true
within_good read name good h =
    elim (cases_Bool (nat_le (length (wire read)) 255)) [
      | inl is ↦
          let same : read ≡ name = same_ok read name (rw is at h) in
          rw (← same, good.0, is, good.1) refl
      | inr isnt ↦ let none : ◌≡◌ {A = Result Labels NameError} (Err LongName) (Ok name) = rw isnt at h in cc
    ]

-- a name that is read fits into a record
pub name_from : (word : List ℕ) (name : Labels) → name_word_in word ≡ Some name → fitting_name name ≡ true
name_from word name h =
    let read = given (text_read word) (λ (read : Labels × Bool). within read.0) name
    (ok_some (read_name word) name h) in
    within_good read.value.0 name (text_good word read.value.0 read.value.1 read.was) read.gives
