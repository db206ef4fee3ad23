-- Where a byte stands first, after bytes that are others.
use Rattle.std.proofs.Common.{◌≡◌, ℕ, zero, suc, ◌+◌, ◌-◌, ◌<◌, ◌≤◌, Bool, false, List, [], ◌∷◌, length, take, drop, None, Some, refl, sym, ap, ◌∙◌, arith, inl, inr}
use Rattle.std.specs.List.{list_any, position, position_or_len}
use Rattle.std.proofs.Math.Seq.{take-add}
use Rattle.std.proofs.lemmas.Bool.{cases_lt, or_parts, lt-ltb, le-ltb}
use Rattle.std.proofs.lemmas.List.{take_rest, length-drop}
use Rattle.std.proofs.lemmas.List.Folds.{list_any-append}

-- no element of the first ones and none of those after them
pub none_more : (p : ℕ → Bool) (xs : List ℕ) (n m : ℕ) → list_any p (take n xs) ≡ false
    → list_any p (take (n + m - n) (drop n xs)) ≡ false → list_any p (take (n + m) xs) ≡ false
none_more p xs n m front more =
    let size : n + m - n ≡ m = omega arith in
    let next : list_any p (take m (drop n xs)) ≡ false = rw size at more in
    rw (take-add n m xs, list_any-append p (take n xs) (take m (drop n xs)), front, next) refl

past : (p : ℕ → Bool) (xs : List ℕ) (n : ℕ) → n ≤ length xs → list_any p (take n xs) ≡ false
    → position_or_len p xs ≡ n + position_or_len p (drop n xs)
past p xs zero within none = omega arith
past p [] (suc n) within none = absurd (omega (arith, within))
past p (x ∷ xs) (suc n) within none =
    let parts = or_parts (p x) (list_any p (take n xs)) none in
    let more : position_or_len p xs ≡ n + position_or_len p (drop n xs) = past p xs n (omega (arith, within)) parts.1 in
    let step : position_or_len p (x ∷ xs) ≡ 1 + position_or_len p xs = rw parts.0 refl in
    omega (arith, step, more)

-- it stands there as many places later
pub place_after : (p : ℕ → Bool) (xs : List ℕ) (n at : ℕ) → n ≤ length xs → list_any p (take n xs) ≡ false
    → Some at ≡ position p (take (length xs - n) (drop n xs)) → Some (n + at) ≡ position p xs
place_after p xs n at within none there =
    let h : Some at ≡ position p (drop n xs) = rw (take_rest xs n) at there in
    let size : length (drop n xs) ≡ length xs - n = length-drop n xs in
    elim (cases_lt (position_or_len p (drop n xs)) (length (drop n xs))) [
      | inl below ↦
          let found : position p (drop n xs) ≡ Some (position_or_len p (drop n xs)) = rw (lt-ltb _ _ below) refl in
          let same : at ≡ position_or_len p (drop n xs) = some_same _ _ (h ∙ found) in
          let whole = past p xs n within none in
          let lt : position_or_len p xs < length xs = omega (arith, whole, below, size, within) in
          sym (rw (lt-ltb _ _ lt) (ap Some (whole ∙ ap (λ k. n + k) (sym same))))
      | inr beyond ↦ let none_there : position p (drop n xs) ≡ None = rw (le-ltb _ _ beyond) refl in cc
    ]
  where
    some_same : (m n : ℕ) → Some m ≡ Some n → m ≡ n
    some_same m n e = cc

pub none_after : (p : ℕ → Bool) (xs : List ℕ) (n : ℕ) → n ≤ length xs → list_any p (take n xs) ≡ false
    → None ≡ position p (take (length xs - n) (drop n xs)) → None ≡ position p xs
none_after p xs n within none there =
    let h : None ≡ position p (drop n xs) = rw (take_rest xs n) at there in
    let size : length (drop n xs) ≡ length xs - n = length-drop n xs in
    elim (cases_lt (position_or_len p (drop n xs)) (length (drop n xs))) [
      | inl below ↦ let some : position p (drop n xs) ≡ Some (position_or_len p (drop n xs)) = rw (lt-ltb _ _ below) refl in cc
      | inr beyond ↦
          let whole = past p xs n within none in
          let le : length xs ≤ position_or_len p xs = omega (arith, whole, beyond, size, within) in
          sym (rw (le-ltb _ _ le) refl)
    ]
