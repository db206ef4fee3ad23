-- Cutting lists at the first element that passes a test.
use Rattle.std.proofs.Common.{◌≡◌, ℕ, ◌+◌, ◌-◌, ◌<◌, ◌≤◌, Bool, false, ◌==◌, List, [], ◌∷◌, length, take, drop, None, Some, refl, ◌∙◌, arith, inl, inr}
use Rattle.std.specs.List.{slice_split, position, position_or_len}
use Rattle.std.proofs.lemmas.Bool.{cases_lt, cases_Bool, lt-ltb, le-ltb}
use Rattle.std.proofs.lemmas.List.{take_rest}
use Rattle.std.proofs.lemmas.List.Splits.{slice_split_first}
use Rattle.std.proofs.lemmas.Bool.Decides.{nat_tests}
use Rattle.dns_session.specs.LinePlaces.{pieces, is_nothing, next_in, place}
use Rattle.dns_session.specs.Lines.{words, single}

-- where nothing passes there is one piece
split_uncut : (p : ℕ → Bool) (xs : List ℕ) → length xs ≤ position_or_len p xs → slice_split p xs ≡ xs ∷ []
split_uncut p [] h = refl
split_uncut p (x ∷ xs) h =
    elim (cases_Bool (p x)) [
      | inl is ↦ let none : position_or_len p (x ∷ xs) ≡ 0 = rw is refl in absurd (omega arith)
      | inr isnt ↦
          let more : position_or_len p (x ∷ xs) ≡ 1 + position_or_len p xs = rw isnt refl in
          let ih = split_uncut p xs (omega arith) in
          rw (isnt, ih) refl
    ]

position_below : (p : ℕ → Bool) (xs : List ℕ) → position_or_len p xs < length xs
    → position p xs ≡ Some (position_or_len p xs)
position_below p xs h = rw (lt-ltb _ _ h) refl

position_past : (p : ℕ → Bool) (xs : List ℕ) → length xs ≤ position_or_len p xs → position p xs ≡ None
position_past p xs h = rw (le-ltb _ _ h) refl

some_same : (m n : ℕ) → Some m ≡ Some n → m ≡ n
some_same m n e = cc

pub cut_none : (p : ℕ → Bool) (xs : List ℕ) → None ≡ position p xs → slice_split p xs ≡ xs ∷ []
cut_none p xs h =
    elim (cases_lt (position_or_len p xs) (length xs)) [
      | inl below ↦ let some = position_below p xs below in cc
      | inr past ↦ split_uncut p xs past
    ]

pub cut_some : (p : ℕ → Bool) (xs : List ℕ) (at : ℕ) → Some at ≡ position p xs
    → slice_split p xs ≡ take at xs ∷ slice_split p (drop (at + 1) xs)
cut_some p xs at h =
    elim (cases_lt (position_or_len p xs) (length xs)) [
      | inl below ↦
          let some = position_below p xs below in
          let e : at ≡ position_or_len p xs = some_same _ _ (h ∙ some) in
          rw e (slice_split_first p xs 0 below)
      | inr past ↦ let none = position_past p xs past in cc
    ]

pub cut_parts : (p : ℕ → Bool) (xs : List ℕ) (at : ℕ) → Some at ≡ position p xs
    → slice_split p xs ≡ take at xs ∷ slice_split p (take (length xs - (at + 1)) (drop (at + 1) xs))
cut_parts p xs at h = rw (take_rest xs (at + 1)) (cut_some p xs at h)

-- pieces are never none
pub pieces_listed : (byte : ℕ) (xs : List ℕ)
    → (first : List ℕ) × (others : List (List ℕ)) × (pieces byte xs ≡ first ∷ others)
pieces_listed byte [] = ([], [], refl)
pieces_listed byte (x ∷ xs) =
    elim (cases_Bool (x == byte)) [
      | inl is ↦ ([], pieces byte xs, rw is refl)
      | inr isnt ↦ let ih = pieces_listed byte xs in (x ∷ ih.0, ih.1, rw (isnt, ih.2) refl)
    ]

-- a text with a byte isn't the last, empty piece
pub nothing_is : (byte : ℕ) (xs : List ℕ) → (length xs == 0) ≡ is_nothing (pieces byte xs)
nothing_is byte [] = refl
nothing_is byte (x ∷ xs) =
    let some : (length (x ∷ xs) == 0) ≡ false = grind (arith, nat_tests) in
    let rest = pieces_listed byte xs in
    elim (cases_Bool (x == byte)) [
      | inl is ↦ rw (some, is, rest.2) refl
      | inr isnt ↦ rw (some, isnt, rest.2) refl
    ]

pub next_some : (number byte : ℕ) (text line rest : List ℕ) → pieces byte text ≡ line ∷ pieces byte rest
    → next_in number (pieces byte text) ≡ Some (line, place (number + 1) (pieces byte rest))
next_some number byte text line rest h = let more = pieces_listed byte rest in rw (h, more.2) refl

pub next_none : (number byte : ℕ) (text : List ℕ) → pieces byte text ≡ text ∷ []
    → next_in number (pieces byte text) ≡ None
next_none number byte text h = rw h refl

-- a word with more behind it isn't the only one
pub single_long : (text word rest : List ℕ) → words text ≡ word ∷ words rest → None ≡ single (words text)
single_long text word rest h = let more = pieces_listed 32 rest in rw (h, more.2) refl
