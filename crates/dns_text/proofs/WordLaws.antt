-- What is printed is read as the same value, and a word that is read is the one that its value has.
use Rattle.std.proofs.Common.{◌≡◌, ℕ, zero, suc, ◌^◌, ◌<◌, ◌≤◌, true, false, ◌==◌, ◌&&◌, nat_le, List, [], ◌∷◌, ◌++◌, length, take, drop, get_or, codes, Option, None, Some, is_some, unwrap_or, if◌then◌else◌, refl, sym, ap, subst, rules, ◌∙◌, arith, inl, inr, ◌⊎◌}
use Rattle.std.specs.Fmt.{decimal}
use Rattle.std.specs.Option.{option_or}
use Rattle.std.specs.Str.{all_ascii_digits}
use Rattle.std.specs.Str.Parse.{digits_value}
use Rattle.std.specs.Cmp.Lexicographic.{bytes_decides}
use Rattle.std.proofs.lemmas.Bool.{cases_Bool, le-leb, leb-true, and_parts, eqb-true, eq-eqb}
use Rattle.std.proofs.lemmas.Bool.Decides.{nat_tests}
use Rattle.std.proofs.Math.Seq.{take-append_seam, drop-append_seam}
use Rattle.std.proofs.lemmas.List.{take-append-drop}
use Rattle.std.proofs.lemmas.Fmt.{decimal_digit, decimal_nonempty, first_decimal, digits_decimal, digits_value-decimal, decimal-digits_value}
use Rattle.std.proofs.lemmas.Str.Parse.{IsNumeralModel, numerals_by_value}
use Rattle.std.proofs.lemmas.Option.{same_Some, none-some}
use Rattle.dns_model.specs.Keys.{bytes_eq}
use Rattle.dns_model.proofs.ChainLemmas.{bytes_same}
use Rattle.dns_text.specs.Words.{is_unpadded, is_decimal, decimal_in}
use Rattle.dns_model.specs.OptionSteps.{◌>>=◌}
use Rattle.dns_record.specs.Words.{Row, type_rows, class_rows, own_word, own_number, code_word, type_word, class_word}
use Rattle.dns_text.specs.Codes.{after_prefix, prefixed_in, code_in, type_word_in, class_word_in}

-- a number that has no own word
abbrev if_unnamed : List Row → ℕ → Option ℕ
if_unnamed rows n = if is_some (own_word rows n) then None else Some n

-- ---- numbers

pub own : IsNumeralModel (λ ds. all_ascii_digits ds ≡ true) (digits_value 10)
own = numerals_by_value _ (search rules)

unpadded_above : (ds : List ℕ) → 0 < length ds → 48 < get_or ds 0 0 → is_unpadded ds ≡ true
unpadded_above [] h first = absurd (omega arith)
unpadded_above (c ∷ []) h first = refl
unpadded_above (c ∷ d ∷ ds) h first = let above : 48 < c = first in grind (arith, nat_tests)

unpadded_decimal : (n : ℕ) → n < 2 ^ 64 → is_unpadded (decimal n) ≡ true
unpadded_decimal zero h = rw (decimal_digit 0 (omega arith)) refl
unpadded_decimal (suc n) h =
    unpadded_above (decimal (suc n)) (decimal_nonempty (suc n) h) (first_decimal (suc n) (omega arith) h)

unpadded_listed : (ds : List ℕ) → is_unpadded ds ≡ true → 0 < length ds
unpadded_listed [] h = cc
unpadded_listed (c ∷ ds) h = omega arith

zero_alone : (ds : List ℕ) → is_unpadded ds ≡ true → get_or ds 0 0 ≡ 48 → length ds ≡ 1
zero_alone [] h e = cc
zero_alone (c ∷ []) h e = refl
zero_alone (c ∷ d ∷ ds) h e = let first : c ≡ 48 = e in let none : false ≡ true = rw first at h in cc

-- a printed number is read
pub decimal_back : (limit n : ℕ) → n ≤ limit → n < 2 ^ 64 → decimal_in limit (decimal n) ≡ Some n
unfolding decimal_in
decimal_back limit n within h =
    rw (unpadded_decimal n h, digits_decimal own n h, digits_value-decimal own n h, le-leb n limit within) refl

decimal_of_value : (limit n : ℕ) (word : List ℕ) → limit < 2 ^ 64
    → (is_decimal word && nat_le (digits_value 10 word) limit ≡ true) ⊎ (is_decimal word && nat_le (digits_value 10 word) limit ≡ false)
    → (if is_decimal word && nat_le (digits_value 10 word) limit then Some (digits_value 10 word) else None) ≡ Some n
    → word ≡ decimal n
decimal_of_value limit n word fits (inr isnt) h = let none : None ≡ Some n = rw isnt at h in cc
decimal_of_value limit n word fits (inl is) h =
    let value : digits_value 10 word ≡ n = same_Some _ _ (rw is at h) in
    let parts = and_parts (is_decimal word) (nat_le (digits_value 10 word) limit) is in
    let form = and_parts (is_unpadded word) (all_ascii_digits word) parts.0 in
    let within = leb-true _ _ parts.1 in
    sym (rw (← value) (decimal-digits_value own word form.1 (unpadded_listed word form.0) (zero_alone word form.0) (omega (arith, within))))

-- a word that is read is the printed number
pub decimal_from : (limit n : ℕ) (word : List ℕ) → limit < 2 ^ 64 → decimal_in limit word ≡ Some n → word ≡ decimal n
unfolding decimal_in
decimal_from limit n word fits h =
    decimal_of_value limit n word fits (cases_Bool (is_decimal word && nat_le (digits_value 10 word) limit)) h

-- ---- own words

-- no two rows have one word
abbrev WordsDiffer : List Row → Type 0
WordsDiffer [] = Unit {0}
WordsDiffer (row ∷ rows) = (own_number rows row.1 ≡ None) × WordsDiffer rows

-- no two rows have one number
abbrev NumbersDiffer : List Row → Type 0
NumbersDiffer [] = Unit {0}
NumbersDiffer (row ∷ rows) = (own_word rows row.0 ≡ None) × NumbersDiffer rows

pub bytes_alike : (a b : List ℕ) → a ≡ b → bytes_eq a b ≡ true
bytes_alike a b h = (bytes_decides a b).1 h

-- a number's own word is read as the number
pub named_back : (rows : List Row) (n : ℕ) (word : List ℕ) → WordsDiffer rows → own_word rows n ≡ Some word
    → own_number rows word ≡ Some n
unfolding own_word own_number
named_back [] n word differ h = cc
named_back (row ∷ rows) n word differ h =
    elim (cases_Bool (row.0 == n)) [
      | inl is ↦
          let same : row.1 ≡ word = same_Some _ _ (rw is at h) in
          rw (bytes_alike row.1 word same) (ap Some (eqb-true row.0 n is))
      | inr isnt ↦
          let rest : own_number rows word ≡ Some n = named_back rows n word differ.1 (rw isnt at h) in
          elim (cases_Bool (bytes_eq row.1 word)) [
            | inl same ↦
                let none : own_number rows word ≡ None = rw (sym (bytes_same row.1 word same)) differ.0 in
                cc
            | inr other ↦ rw other rest
          ]
    ]

-- a word that is read as a number is the number's own
named_from : (rows : List Row) (n : ℕ) (word : List ℕ) → NumbersDiffer rows → own_number rows word ≡ Some n
    → own_word rows n ≡ Some word
unfolding own_word own_number
named_from [] n word differ h = cc
named_from (row ∷ rows) n word differ h =
    elim (cases_Bool (bytes_eq row.1 word)) [
      | inl is ↦
          let same : row.0 ≡ n = same_Some _ _ (rw is at h) in
          rw (eq-eqb row.0 n same) (ap Some (bytes_same row.1 word is))
      | inr isnt ↦
          let rest : own_word rows n ≡ Some word = named_from rows n word differ.1 (rw isnt at h) in
          elim (cases_Bool (row.0 == n)) [
            | inl same ↦
                let none : own_word rows n ≡ None = rw (sym (eqb-true row.0 n same)) differ.0 in
                cc
            | inr other ↦ rw other rest
          ]
    ]

-- ---- words with a prefix

pub prefix_back : (prefix rest : List ℕ) → after_prefix prefix (prefix ++ rest) ≡ Some rest
prefix_back prefix rest =
    let front : take (length prefix) (prefix ++ rest) ≡ prefix = take-append_seam prefix rest in
    let back : drop (length prefix) (prefix ++ rest) ≡ rest = drop-append_seam prefix rest in
    rw (front, back, bytes_alike prefix prefix refl) refl

pub prefix_from : (prefix word rest : List ℕ) → after_prefix prefix word ≡ Some rest → word ≡ prefix ++ rest
prefix_from prefix word rest h =
    elim (cases_Bool (bytes_eq (take (length prefix) word) prefix)) [
      | inl is ↦
          let back : drop (length prefix) word ≡ rest = same_Some _ _ (rw is at h) in
          sym (take-append-drop (length prefix) word)
          ∙ ap (λ front. front ++ drop (length prefix) word) (bytes_same _ _ is)
          ∙ ap (λ end. prefix ++ end) back
      | inr isnt ↦ let none : None ≡ Some rest = rw isnt at h in cc
    ]

-- no row's word begins with the prefix
abbrev NonePrefixed : List ℕ → List Row → Type 0
NonePrefixed prefix [] = Unit {0}
NonePrefixed prefix (row ∷ rows) = (after_prefix prefix row.1 ≡ None) × NonePrefixed prefix rows

pub prefixed_unnamed : (prefix rest : List ℕ) (rows : List Row) → NonePrefixed prefix rows
    → own_number rows (prefix ++ rest) ≡ None
unfolding own_number
prefixed_unnamed prefix rest [] apart = refl
prefixed_unnamed prefix rest (row ∷ rows) apart =
    elim (cases_Bool (bytes_eq row.1 (prefix ++ rest))) [
      | inl is ↦
          let P : List ℕ → Type 0 = λ word. after_prefix prefix word ≡ Some rest in
          let some : after_prefix prefix row.1 ≡ Some rest =
          subst P (sym (bytes_same _ _ is)) (prefix_back prefix rest) in
          absurd (none-some rest (sym apart.0 ∙ some))
      | inr isnt ↦ rw isnt (prefixed_unnamed prefix rest rows apart.1)
    ]

code_back_at : (rows : List Row) (prefix : List ℕ) (n : ℕ) → WordsDiffer rows → NonePrefixed prefix rows → n ≤ 65535
    → (own : Option (List ℕ)) → own_word rows n ≡ own
    → code_in rows prefix (unwrap_or own (prefix ++ decimal n)) ≡ Some n
code_back_at rows prefix n differ apart within (Some word) h = rw (named_back rows n word differ h) refl
code_back_at rows prefix n differ apart within None h =
    rw (prefixed_unnamed prefix (decimal n) rows apart, prefix_back prefix (decimal n), decimal_back 65535 n within (omega arith), h) refl

code_back : (rows : List Row) (prefix : List ℕ) (n : ℕ) → WordsDiffer rows → NonePrefixed prefix rows → n ≤ 65535
    → code_in rows prefix (code_word rows prefix n) ≡ Some n
code_back rows prefix n differ apart within = code_back_at rows prefix n differ apart within (own_word rows n) refl

unnamed_from : (rows : List Row) (m n : ℕ) (own : Option (List ℕ)) → own_word rows m ≡ own
    → (if is_some own then None else Some m) ≡ Some n
    → (m ≡ n) × (own_word rows m ≡ None)
unnamed_from rows m n None h e = (same_Some m n e, h)
unnamed_from rows m n (Some word) h e = absurd (none-some n e)

decimal_unnamed : (rows : List Row) (prefix word rest : List ℕ) (n : ℕ) → after_prefix prefix word ≡ Some rest
    → (number : Option ℕ) → decimal_in 65535 rest ≡ number → (number >>= if_unnamed rows) ≡ Some n
    → word ≡ code_word rows prefix n
decimal_unnamed rows prefix word rest n h None d e = absurd (none-some n e)
decimal_unnamed rows prefix word rest n h (Some m) d e =
    let facts = unnamed_from rows m n (own_word rows m) refl e in
    let digits : rest ≡ decimal m = decimal_from 65535 m rest (omega arith) d in
    prefix_from prefix word rest h ∙ ap (λ ds. prefix ++ ds) (digits ∙ ap decimal facts.0)
    ∙ sym (ap (λ own. unwrap_or own (prefix ++ decimal n)) (sym (ap (own_word rows) facts.0) ∙ facts.1))

prefixed_from : (rows : List Row) (prefix word : List ℕ) (n : ℕ) (rest : Option (List ℕ))
    → after_prefix prefix word ≡ rest
    → (rest >>= λ digits. decimal_in 65535 digits >>= if_unnamed rows) ≡ Some n → word ≡ code_word rows prefix n
prefixed_from rows prefix word n None h e = absurd (none-some n e)
prefixed_from rows prefix word n (Some rest) h e =
    decimal_unnamed rows prefix word rest n h (decimal_in 65535 rest) refl e

code_from_at : (rows : List Row) (prefix word : List ℕ) (n : ℕ) → NumbersDiffer rows
    → (named : Option ℕ) → own_number rows word ≡ named → option_or named (prefixed_in rows prefix word) ≡ Some n
    → word ≡ code_word rows prefix n
code_from_at rows prefix word n differ (Some m) h e =
    let own : own_word rows n ≡ Some word = named_from rows n word differ (h ∙ e) in
    rw own refl
code_from_at rows prefix word n differ None h e = prefixed_from rows prefix word n (after_prefix prefix word) refl e

code_from : (rows : List Row) (prefix word : List ℕ) (n : ℕ) → NumbersDiffer rows → code_in rows prefix word ≡ Some n
    → word ≡ code_word rows prefix n
code_from rows prefix word n differ h = code_from_at rows prefix word n differ (own_number rows word) refl h

-- the type that a printed type word is
pub type_back : (n : ℕ) → n ≤ 65535 → type_word_in (type_word n) ≡ Some n
unfolding type_word_in type_word own_word own_number
type_back n within = code_back type_rows (codes "TYPE") n (search rules) (search rules) within

pub class_back : (n : ℕ) → n ≤ 65535 → class_word_in (class_word n) ≡ Some n
unfolding class_word_in class_word own_word own_number
class_back n within = code_back class_rows (codes "CLASS") n (search rules) (search rules) within

-- a word that is read is the one that is printed
pub type_from : (word : List ℕ) (n : ℕ) → type_word_in word ≡ Some n → word ≡ type_word n
unfolding type_word_in type_word own_word own_number
type_from word n h = code_from type_rows (codes "TYPE") word n (search rules) h

pub class_from : (word : List ℕ) (n : ℕ) → class_word_in word ≡ Some n → word ≡ class_word n
unfolding class_word_in class_word own_word own_number
class_from word n h = code_from class_rows (codes "CLASS") word n (search rules) h
