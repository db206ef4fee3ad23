-- Lists over a range of numbers, and lists of which one place is changed.
use Rattle.std.proofs.Common.{inl, inr, ◌≡◌, ℕ, zero, suc, ◌+◌, ◌<◌, ◌≤◌, Bool, true, false, cond, List, [], ◌∷◌, map, length, Option, None, Some, refl, sym, ap, ◌∙◌, arith, slice_get, ◌⊎◌}
use Rattle.std.specs.Prelude.{◌==◌}
use Rattle.std.specs.List.{range_with_len, list_any, position, position_from}
use Rattle.std.specs.Option.{option_map}
use Rattle.std.proofs.lemmas.Bool.{eq-eqb, ne_eqb, cond-true, cond-false, cases_eq, or_right}
use Rattle.std.proofs.lemmas.Iterator.Adapters.{position_from-zero}
use Rattle.dns_multiplexer.specs.Machine.{changed_at}

-- ---- numbers that are equal or not

-- a choice by a number at that number, and at another
pub choose_here : {X : Type 0} (k n : ℕ) (x y : X) → k ≡ n → cond (k == n) x y ≡ x
choose_here k n x y same = cond-true (k == n) x y (eq-eqb k n same)

pub choose_other : {X : Type 0} (k n : ℕ) (x y : X) → (k ≡ n → ⊥) → cond (k == n) x y ≡ y
choose_other k n x y apart = cond-false (k == n) x y (ne_eqb k n apart)

suc-case : (k n : ℕ) → ((k ≡ n) ⊎ (k ≡ n → ⊥)) → (suc k == suc n) ≡ (k == n)
suc-case k n (inl same) = eq-eqb (suc k) (suc n) (ap suc same) ∙ sym (eq-eqb k n same)
suc-case k n (inr apart) = ne_eqb (suc k) (suc n) (λ same. apart (omega (arith, same))) ∙ sym (ne_eqb k n apart)

pub suc_same : (k n : ℕ) → (suc k == suc n) ≡ (k == n)
suc_same k n = suc-case k n (cases_eq k n)

-- ---- ranges

module _ {X : Type 0} where
  -- functions that agree on a range
  pub map-range : (F G : ℕ → X) (a c : ℕ) → ((n : ℕ) → a ≤ n → n < a + c → F n ≡ G n)
      → map F (range_with_len a c) ≡ map G (range_with_len a c)
  map-range F G a zero h = refl
  map-range F G a (suc c) h =
      let head : F a ≡ G a = h a (omega arith) (omega arith) in
      let tail : map F (range_with_len (a + 1) c) ≡ map G (range_with_len (a + 1) c) =
      map-range F G (a + 1) c (λ n low high. h n (omega (arith, low)) (omega (arith, high))) in
      rw (head, tail) refl

  changed-range : (F : ℕ → X) (change : X → X) (k a c : ℕ)
      → changed_at k change (map F (range_with_len a c)) ≡ map (λ n. cond (a + k == n) (change (F n)) (F n))
      (range_with_len a c)
  unfolding changed_at
  changed-range F change k a zero = refl
  changed-range F change zero a (suc c) =
      let head : cond (a + 0 == a) (change (F a)) (F a) ≡ change (F a) = choose_here (a + 0) a (change (F a))
      (F a) (omega arith) in
      let tail : map F (range_with_len (a + 1) c) ≡ map (λ n. cond (a + 0 == n) (change (F n)) (F n))
      (range_with_len (a + 1) c) =
      map-range F (λ n. cond (a + 0 == n) (change (F n)) (F n)) (a + 1) c
      (λ n low high. sym (choose_other (a + 0) n (change (F n)) (F n) (λ same. omega (arith, low, same)))) in
      rw (head, sym tail) refl
  changed-range F change (suc k) a (suc c) =
      let head : cond (a + suc k == a) (change (F a)) (F a) ≡ F a = choose_other (a + suc k) a (change (F a))
      (F a) (λ same. omega (arith, same)) in
      let tail : changed_at k change (map F (range_with_len (a + 1) c)) ≡ map
      (λ n. cond (a + suc k == n) (change (F n)) (F n)) (range_with_len (a + 1) c) =
      changed-range F change k (a + 1) c
      ∙ map-range (λ n. cond (a + 1 + k == n) (change (F n)) (F n))
      (λ n. cond (a + suc k == n) (change (F n)) (F n)) (a + 1) c
      (λ n low high. ap (λ m. cond (m == n) (change (F n)) (F n)) (omega arith)) in
      rw (head, tail) refl

  -- a function that is another, but for a change at one number
  pub changed-map : (F G : ℕ → X) (change : X → X) (k c : ℕ)
      → ((n : ℕ) → n < c → G n ≡ cond (k == n) (change (F n)) (F n))
      → map G (range_with_len 0 c) ≡ changed_at k change (map F (range_with_len 0 c))
  changed-map F G change k c h =
      map-range G (λ n. cond (0 + k == n) (change (F n)) (F n)) 0 c
      (λ n low high. h n (omega (arith, high)) ∙ ap (λ m. cond (m == n) (change (F n)) (F n)) (omega arith))
      ∙ sym (changed-range F change k 0 c)

  map-map : {Y : Type 0} (F : ℕ → X) (h : X → Y) (ns : List ℕ) → map h (map F ns) ≡ map (λ n. h (F n)) ns
  map-map F h [] = refl
  map-map F h (n ∷ ns) = rw (map-map F h ns) refl

  -- a function that is another, changed everywhere
  pub all_changed : (F G : ℕ → X) (change : X → X) (c : ℕ) → ((n : ℕ) → G n ≡ change (F n))
      → map G (range_with_len 0 c) ≡ map change (map F (range_with_len 0 c))
  all_changed F G change c h = map-range G (λ n. change (F n)) 0 c (λ n low high. h n)
      ∙ sym (map-map F change (range_with_len 0 c))

  -- functions that become equal by a change
  pub alike_changed : (F G : ℕ → X) (change : X → X) (c : ℕ) → ((n : ℕ) → change (F n) ≡ change (G n))
      → map change (map F (range_with_len 0 c)) ≡ map change (map G (range_with_len 0 c))
  alike_changed F G change c h =
      map-map F change (range_with_len 0 c)
      ∙ map-range (λ n. change (F n)) (λ n. change (G n)) 0 c (λ n low high. h n)
      ∙ sym (map-map G change (range_with_len 0 c))

  -- ---- tests over a range

  -- no number of the range passes
  pub none-range : (F : ℕ → X) (p : X → Bool) (a c : ℕ) → ((n : ℕ) → p (F n) ≡ false)
      → list_any p (map F (range_with_len a c)) ≡ false
  none-range F p a zero h = refl
  none-range F p a (suc c) h = rw (h a, none-range F p (a + 1) c h) refl

  some-head : (F : ℕ → X) (p : X → Bool) (k a c : ℕ) → p (F k) ≡ true → ((k ≡ a) ⊎ (k ≡ a → ⊥))
      → ((k ≡ a → ⊥) → list_any p (map F (range_with_len (a + 1) c)) ≡ true)
      → list_any p (map F (range_with_len a (suc c))) ≡ true
  some-head F p k a c h (inl same) more = rw (sym same, h) refl
  some-head F p k a c h (inr apart) more = or_right (p (F a)) _ (more apart)

  -- one number of the range passes
  pub some-range : (F : ℕ → X) (p : X → Bool) (k a c : ℕ) → a ≤ k → k < a + c → p (F k) ≡ true
      → list_any p (map F (range_with_len a c)) ≡ true
  some-range F p k a zero low high h = absurd (omega (arith, low, high))
  some-range F p k a (suc c) low high h = some-head F p k a c h (cases_eq k a)
      (λ apart. some-range F p k (a + 1) c (omega (arith, low, apart)) (omega (arith, high)) h)

  -- none passes, or one alone does
  pub no_position : (F : ℕ → X) (p : X → Bool) (a c : ℕ) → ((n : ℕ) → p (F n) ≡ false)
      → position_from p a (map F (range_with_len a c)) ≡ None
  no_position F p a zero h = refl
  no_position F p a (suc c) h = rw (h a, no_position F p (a + 1) c h) refl

  one-head : (F : ℕ → X) (p : X → Bool) (k a c : ℕ) → ((n : ℕ) → p (F n) ≡ (k == n)) → ((k ≡ a) ⊎ (k ≡ a → ⊥))
      → ((k ≡ a → ⊥) → position_from p (a + 1) (map F (range_with_len (a + 1) c)) ≡ Some k)
      → position_from p a (map F (range_with_len a (suc c))) ≡ Some k
  one-head F p k a c h (inl same) more = rw (h a ∙ eq-eqb k a same) (ap Some (sym same))
  one-head F p k a c h (inr apart) more = rw (h a ∙ ne_eqb k a apart) (more apart)

  pub one_position : (F : ℕ → X) (p : X → Bool) (k a c : ℕ) → a ≤ k → k < a + c
      → ((n : ℕ) → p (F n) ≡ (k == n)) → position_from p a (map F (range_with_len a c)) ≡ Some k
  one_position F p k a zero low high h = absurd (omega (arith, low, high))
  one_position F p k a (suc c) low high h = one-head F p k a c h (cases_eq k a)
      (λ apart. one_position F p k (a + 1) c (omega (arith, low, apart)) (omega (arith, high)) h)

  -- `position` counts from 0
  pub position_is : (p : X → Bool) (xs : List X) → position p xs ≡ position_from p 0 xs
  position_is p xs = position_from-zero p xs

  -- ---- what stands at a place

  pub get-range : (F : ℕ → X) (k a c : ℕ) → k < c → slice_get (map F (range_with_len a c)) k ≡ Some (F (a + k))
  get-range F k a zero h = absurd (omega (arith, h))
  get-range F zero a (suc c) h = ap (λ n. Some (F n)) (omega arith)
  get-range F (suc k) a (suc c) h = get-range F k (a + 1) c (omega (arith, h)) ∙ ap (λ n. Some (F n)) (omega arith)

  pub get-changed_at : (k n : ℕ) (change : X → X) (xs : List X)
      → slice_get (changed_at k change xs) n ≡ cond (k == n) (option_map change (slice_get xs n)) (slice_get xs n)
  unfolding changed_at
  get-changed_at k n change [] = sym (both_same (k == n) None)
    where
      both_same : (b : Bool) (o : Option X) → cond b o o ≡ o
      both_same true o = refl
      both_same false o = refl
  get-changed_at zero zero change (x ∷ xs) = refl
  get-changed_at zero (suc n) change (x ∷ xs) = sym
      (choose_other 0 (suc n) (option_map change (slice_get xs n)) (slice_get xs n) (λ same. omega (arith, same)))
  get-changed_at (suc k) zero change (x ∷ xs) = sym
      (choose_other (suc k) 0 (Some (change x)) (Some x) (λ same. omega (arith, same)))
  get-changed_at (suc k) (suc n) change (x ∷ xs) =
      get-changed_at k n change xs
      ∙ ap (λ b. cond b (option_map change (slice_get xs n)) (slice_get xs n)) (sym (suc_same k n))

  pub length-changed_at : (k : ℕ) (change : X → X) (xs : List X) → length (changed_at k change xs) ≡ length xs
  unfolding changed_at
  length-changed_at k change [] = refl
  length-changed_at zero change (x ∷ xs) = refl
  length-changed_at (suc k) change (x ∷ xs) = ap suc (length-changed_at k change xs)
