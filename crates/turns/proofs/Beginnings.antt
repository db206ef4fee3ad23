-- Beginnings of lists.
use Rattle.std.proofs.Common.{◌≡◌, ℕ, zero, suc, ◌≤◌, ◌<◌, Bool, true, false, List, [], ◌∷◌, ◌++◌, length, take, drop, slice_get, Some, refl, sym, ap, ◌∙◌, arith, inl, inr, ◌⊎◌, ⊎_elim}
use Rattle.std.specs.Prelude.{nat_lt}
use Rattle.std.proofs.lemmas.Bool.Decides.{nat_tests}
use Rattle.turns.specs.Turns.{Begins, longer}

module _ {E : Type 0} where
  head-same : (x y : E) (xs ys : List E) → x ∷ xs ≡ y ∷ ys → x ≡ y
  head-same x y xs ys is = cc

  tail-same : (x y : E) (xs ys : List E) → x ∷ xs ≡ y ∷ ys → xs ≡ ys
  tail-same x y xs ys is = cc

  cons-same : (x y : E) (xs ys : List E) → x ≡ y → xs ≡ ys → x ∷ xs ≡ y ∷ ys
  cons-same x y xs ys head tail = rw (head, tail) refl

  pub begins_itself : (xs : List E) → Begins xs xs
  begins_itself [] = refl
  begins_itself (x ∷ xs) = ap (λ ys. x ∷ ys) (begins_itself xs)

  pub begins_none : (xs : List E) → Begins xs []
  begins_none xs = refl

  pub begins_on : (whole mid start : List E) → Begins whole mid → Begins mid start → Begins whole start
  begins_on whole mid [] first second = refl
  begins_on whole [] (s ∷ start) first second = cc
  begins_on [] (m ∷ mid) (s ∷ start) first second = cc
  begins_on (w ∷ whole) (m ∷ mid) (s ∷ start) first second =
      cons-same w s (take (length start) whole) start
      (head-same w m (take (length mid) whole) mid first ∙ head-same m s (take (length start) mid) start second)
      (begins_on whole mid start (tail-same w m (take (length mid) whole) mid first) (tail-same m s (take (length start) mid) start second))

  pub begins_length : (whole start : List E) → Begins whole start → length start ≤ length whole
  begins_length whole [] is = omega arith
  begins_length [] (s ∷ start) is = cc
  begins_length (w ∷ whole) (s ∷ start) is =
      omega (arith, begins_length whole start (tail-same w s (take (length start) whole) start is))

  -- of two beginnings of one list the shorter begins the longer
  pub begins_both : (whole one other : List E) → Begins whole one → Begins whole other → length one ≤ length other → Begins other one
  begins_both whole [] other first second short = refl
  begins_both whole (a ∷ one) [] first second short = absurd (omega (arith, short))
  begins_both [] (a ∷ one) (b ∷ other) first second short = cc
  begins_both (w ∷ whole) (a ∷ one) (b ∷ other) first second short =
      cons-same b a (take (length one) other) one
      (sym (head-same w b (take (length other) whole) other second) ∙ head-same w a (take (length one) whole) one first)
      (begins_both whole one other (tail-same w a (take (length one) whole) one first)
      (tail-same w b (take (length other) whole) other second) (omega (arith, short)))

  -- what stands in a beginning stands in the whole
  pub get_begins : (whole start : List E) (place : ℕ) (event : E) → Begins whole start → slice_get start place ≡ Some event
      → slice_get whole place ≡ Some event
  get_begins whole [] place event is stands = cc
  get_begins [] (s ∷ start) place event is stands = cc
  get_begins (w ∷ whole) (s ∷ start) zero event is stands =
      ap Some (head-same w s (take (length start) whole) start is) ∙ stands
  get_begins (w ∷ whole) (s ∷ start) (suc place) event is stands =
      get_begins whole start place event (tail-same w s (take (length start) whole) start is) stands

  pub get_below : (xs : List E) (place : ℕ) (event : E) → slice_get xs place ≡ Some event → place < length xs
  get_below [] place event is = cc
  get_below (x ∷ xs) zero event is = omega arith
  get_below (x ∷ xs) (suc place) event is = omega (arith, get_below xs place event is)

  -- the whole is its beginning and the rest
  pub rest_of : (whole start : List E) → Begins whole start → whole ≡ start ++ drop (length start) whole
  rest_of whole [] is = refl
  rest_of [] (s ∷ start) is = cc
  rest_of (w ∷ whole) (s ∷ start) is =
      cons-same w s whole (start ++ drop (length start) whole) (head-same w s (take (length start) whole) start is)
      (rest_of whole start (tail-same w s (take (length start) whole) start is))

  pub get_behind : (before : List E) (event : E) (rest : List E) → slice_get (before ++ event ∷ rest) (length before) ≡ Some event
  get_behind [] event rest = refl
  get_behind (x ∷ before) event rest = get_behind before event rest

  -- ---- the longer of two

  longer-case : (one other : List E) (b : Bool) → nat_lt (length one) (length other) ≡ b
      → (longer one other ≡ one) × (length other ≤ length one) ⊎ (longer one other ≡ other) × (length one ≤ length other)
  longer-case one other true is = inr (rw is refl, grind (arith, nat_tests))
  longer-case one other false is = inl (rw is refl, grind (arith, nat_tests))

  pub longer_cases : (one other : List E)
      → (longer one other ≡ one) × (length other ≤ length one) ⊎ (longer one other ≡ other) × (length one ≤ length other)
  longer_cases one other = longer-case one other _ refl

  module _ (whole one other : List E) (first : Begins whole one) (second : Begins whole other) where
    pub longer_begins : Begins whole (longer one other)
    longer_begins = ⊎_elim
        (λ (is : (longer one other ≡ one) × (length other ≤ length one)). rw is.0 first)
        (λ (is : (longer one other ≡ other) × (length one ≤ length other)). rw is.0 second)
        (longer_cases one other)

    pub begins_longer : Begins (longer one other) one
    begins_longer = ⊎_elim
        (λ (is : (longer one other ≡ one) × (length other ≤ length one)). rw is.0 (begins_itself one))
        (λ (is : (longer one other ≡ other) × (length one ≤ length other)). rw is.0 (begins_both whole one other first second is.1))
        (longer_cases one other)

    pub begins_longer_too : Begins (longer one other) other
    begins_longer_too = ⊎_elim
        (λ (is : (longer one other ≡ one) × (length other ≤ length one)). rw is.0 (begins_both whole other one second first is.1))
        (λ (is : (longer one other ≡ other) × (length one ≤ length other)). rw is.0 (begins_itself other))
        (longer_cases one other)
