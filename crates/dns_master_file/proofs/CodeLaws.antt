-- The words of types and classes are read as their numbers.
use Rattle.std.proofs.Common.{◌≡◌, ℕ, ◌≤◌, ◌==◌, List, [], ◌∷◌, ◌++◌, codes, Option, None, Some, unwrap_or, refl, sym, ap, rules, ◌∙◌, arith, inl, inr}
use Rattle.std.specs.Fmt.{decimal}
use Rattle.std.specs.Option.{option_or}
use Rattle.std.proofs.lemmas.Bool.{cases_Bool}
use Rattle.std.proofs.lemmas.Option.{same_Some}
use Rattle.dns_record.specs.Words.{Row, class_rows, class_word, own_number, own_word, type_rows, type_word}
use Rattle.dns_text.specs.Codes.{after_prefix}
use Rattle.dns_text.proofs.WordLaws.{decimal_back, named_back, prefix_back, prefixed_unnamed}
use Rattle.dns_presentation.specs.TypeTexts.{further_rows, type_text}
use Rattle.dns_master_file.specs.Codes.{class_in, numbered_in, type_in}

-- no two rows have one word
abbrev WordsDiffer : List Row → Type 0
WordsDiffer [] = Unit {0}
WordsDiffer (row ∷ rows) = (own_number rows row.1 ≡ None) × WordsDiffer rows

-- no row's word is a word of other rows
abbrev WordsApart : List Row → List Row → Type 0
WordsApart others [] = Unit {0}
WordsApart others (row ∷ rows) = (own_number others row.1 ≡ None) × WordsApart others rows

-- no row's word begins with the prefix
abbrev NonePrefixed : List ℕ → List Row → Type 0
NonePrefixed prefix [] = Unit {0}
NonePrefixed prefix (row ∷ rows) = (after_prefix prefix row.1 ≡ None) × NonePrefixed prefix rows

named_apart : (others rows : List Row) (n : ℕ) (word : List ℕ) → WordsApart others rows → own_word rows n ≡ Some word
    → own_number others word ≡ None
unfolding own_word
named_apart others [] n word apart h = cc
named_apart others (row ∷ rows) n word apart h =
    elim (cases_Bool (row.0 == n)) [
      | inl is ↦
          let same : row.1 ≡ word = same_Some _ _ (rw is at h) in
          ap (own_number others) (sym same) ∙ apart.0
      | inr isnt ↦ named_apart others rows n word apart.1 (rw isnt at h)
    ]

numbered_back : (prefix : List ℕ) (n : ℕ) → n ≤ 65535 → numbered_in prefix (prefix ++ decimal n) ≡ Some n
numbered_back prefix n within = rw (prefix_back prefix (decimal n)) (decimal_back 65535 n within (omega arith))

-- a word of rows, or the prefix and the number
rows_back : (rows : List Row) (prefix : List ℕ) (n : ℕ) → WordsDiffer rows → NonePrefixed prefix rows → n ≤ 65535
    → (own : Option (List ℕ)) → own_word rows n ≡ own
    → option_or (own_number rows (unwrap_or own (prefix ++ decimal n)))
    (numbered_in prefix (unwrap_or own (prefix ++ decimal n))) ≡ Some n
rows_back rows prefix n differ apart within (Some word) h = rw (named_back rows n word differ h) refl
rows_back rows prefix n differ apart within None h =
    rw (prefixed_unnamed prefix (decimal n) rows apart) (numbered_back prefix n within)

-- ---- the tables

further_differ : WordsDiffer further_rows
unfolding own_number
further_differ = search rules

types_differ : WordsDiffer type_rows
unfolding own_number
types_differ = search rules

classes_differ : WordsDiffer class_rows
unfolding own_number
classes_differ = search rules

types_apart : WordsApart further_rows type_rows
unfolding own_number
types_apart = search rules

further_unprefixed : NonePrefixed (codes "TYPE") further_rows
further_unprefixed = search rules

types_unprefixed : NonePrefixed (codes "TYPE") type_rows
types_unprefixed = search rules

classes_unprefixed : NonePrefixed (codes "CLASS") class_rows
classes_unprefixed = search rules

-- ---- classes and types

pub class_back : (n : ℕ) → n ≤ 65535 → class_in (class_word n) ≡ Some n
unfolding class_in class_word
class_back n within =
    rows_back class_rows (codes "CLASS") n classes_differ classes_unprefixed within (own_word class_rows n) refl

-- a word of the types that sessions know isn't a further word
type_unlisted : (n : ℕ) (own : Option (List ℕ)) → own_word type_rows n ≡ own
    → own_number further_rows (unwrap_or own (codes "TYPE" ++ decimal n)) ≡ None
type_unlisted n (Some word) h = named_apart further_rows type_rows n word types_apart h
type_unlisted n None h = prefixed_unnamed (codes "TYPE") (decimal n) further_rows further_unprefixed

-- a word that isn't a further one
type_else : (n : ℕ) (word : List ℕ) → own_number further_rows word ≡ None
    → option_or (own_number type_rows word) (numbered_in (codes "TYPE") word) ≡ Some n → type_in word ≡ Some n
unfolding type_in
type_else n word none h = rw none h

-- a further word
type_named : (n : ℕ) (word : List ℕ) → own_number further_rows word ≡ Some n → type_in word ≡ Some n
unfolding type_in
type_named n word h = rw h refl

type_back_at : (n : ℕ) → n ≤ 65535 → (further : Option (List ℕ)) → own_word further_rows n ≡ further
    → type_in (unwrap_or further (type_word n)) ≡ Some n
unfolding type_word
type_back_at n within (Some word) h = type_named n word (named_back further_rows n word further_differ h)
type_back_at n within None h =
    let own = own_word type_rows n in
    type_else n _ (type_unlisted n own refl)
    (rows_back type_rows (codes "TYPE") n types_differ types_unprefixed within own refl)

pub type_back : (n : ℕ) → n ≤ 65535 → type_in (type_text n) ≡ Some n
unfolding type_text
type_back n within = type_back_at n within (own_word further_rows n) refl
