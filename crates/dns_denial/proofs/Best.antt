-- The best element of a list so far: how it stays so as one more is met, and that it is the first that no other exceeds.
use Rattle.std.proofs.Common.{◌≡◌, ℕ, ◌+◌, ◌<◌, Bool, true, false, not, ◌&&◌, cond, List, length, get_or, [], ◌∷◌, Option, None, Some, refl, sym, ap, ◌∙◌, arith, ⊎_elim, below_more}
use Rattle.std.specs.Option.{option_map}
use Rattle.std.specs.List.{find, list_all, position, position_or_len, slice_get}
use Rattle.std.proofs.lemmas.Bool.{and_parts, and_from, and_left, and_right, and_cases, cond_both, lt-ltb, le-ltb, both_ways}
use Rattle.std.proofs.lemmas.List.{get_or_default}
use Rattle.std.proofs.lemmas.List.Sums.{position_or_len_is, list_all-from_AllPass}
use Rattle.std.proofs.lemmas.List.Folds.{find_at, list_all_at}
use Rattle.std.proofs.lemmas.Option.{slice_get_past, slice_get_read}
use Rattle.dns_denial.specs.Best.{is_better, next_best, passes_if_there}

-- a strict order of classes
pub record IsRanking {X : Type 0} (less : X → X → Bool) : Type 0 where
  pub itself : (x : X) → less x x ≡ false
  pub back : (x y : X) → less x y ≡ true → less y x ≡ false
  pub past : (x y z : X) → less x y ≡ false → less x z ≡ true → less y z ≡ true

-- of the first i that pass, the element at j is the first that none exceeds
pub record IsBest {X : Type 0} (passes : X → Bool) (less : X → X → Bool) (xs : List X) (i j : ℕ)
    (best : X) : Type 0 where
  pub within : j < i
  pub at : best ≡ get_or xs j best
  pub counts : passes best ≡ true
  pub top : (k : ℕ) (d : X) → k < i → passes (get_or xs k d) ≡ true → less best (get_or xs k d) ≡ false
  pub first : (k : ℕ) (d : X) → k < j → passes (get_or xs k d) ≡ true → less (get_or xs k d) best ≡ true

-- or none passes
abbrev pub IsBestOf : {X : Type 0} → (X → Bool) → (X → X → Bool) → List X → ℕ → Option (ℕ × X) → Type 0
IsBestOf {X} passes less xs i None = (k : ℕ) (d : X) → k < i → passes (get_or xs k d) ≡ false
IsBestOf passes less xs i (Some best) = IsBest passes less xs i best.0 best.1

untrue : {P : Type 0} {b : Bool} → b ≡ false → b ≡ true → P
untrue {P} {b} differs holds = absurd (both_ways b differs holds)

taken : {X : Type 0} (passes : X → Bool) (less : X → X → Bool) → IsRanking less
    → (xs : List X) (i : ℕ) (x : X) (best : Option (ℕ × X))
    → ((d : X) → get_or xs i d ≡ x) → x ≡ get_or xs i x → IsBestOf passes less xs i best → passes x ≡ true
    → is_better less best x ≡ true → IsBest passes less xs (i + 1) i x
taken {X} passes less ranked xs i x None here read none pass better = record {
  within = omega arith;
  at = read;
  counts = pass;
  top = λ k d. below_more (λ n. passes (get_or xs n d) ≡ true → less x (get_or xs n d) ≡ false) i
      (λ n lt h. untrue (none n d lt) h) (λ h. ap (less x) (here d) ∙ ranked.itself x) k;
  first = λ k d lt h. untrue (none k d lt) h;
}
taken {X} passes less ranked xs i x (Some best) here read is pass better = record {
  within = omega arith;
  at = read;
  counts = pass;
  top = λ k d. below_more (λ n. passes (get_or xs n d) ≡ true → less x (get_or xs n d) ≡ false) i
      (λ n lt h. ranked.back (get_or xs n d) x (ranked.past best.1 (get_or xs n d) x (is.top n d lt h) better))
      (λ h. ap (less x) (here d) ∙ ranked.itself x) k;
  first = λ k d lt h. ranked.past best.1 (get_or xs k d) x (is.top k d lt h) better;
}

kept : {X : Type 0} (passes : X → Bool) (less : X → X → Bool) (xs : List X) (i : ℕ) (x : X) (best : Option (ℕ × X))
    → ((d : X) → get_or xs i d ≡ x) → IsBestOf passes less xs i best
    → (passes x && is_better less best x) ≡ false → IsBestOf passes less xs (i + 1) best
kept {X} passes less xs i x None here none worse =
    let fails : passes x ≡ false = ⊎_elim (λ h. h) (λ h. untrue {P = passes x ≡ false} h refl)
    (and_cases (passes x) true worse) in
    λ k d. below_more (λ n. passes (get_or xs n d) ≡ false) i (λ n lt. none n d lt) (ap passes (here d) ∙ fails) k
kept {X} passes less xs i x (Some best) here is worse = record {
  within = let h = is.within in omega arith;
  at = is.at;
  counts = is.counts;
  top = λ k d. below_more (λ n. passes (get_or xs n d) ≡ true → less best.1 (get_or xs n d) ≡ false) i
      (λ n lt h. is.top n d lt h)
      (λ h. ap (less best.1) (here d)
      ∙ ⊎_elim (λ differs. untrue {P = less best.1 x ≡ false} differs (sym (ap passes (here d)) ∙ h)) (λ differs. differs)
      (and_cases (passes x) (less best.1 x) worse)) k;
  first = is.first;
}

-- one more is met
pub best_more : {X : Type 0} (passes : X → Bool) (less : X → X → Bool) → IsRanking less
    → (xs : List X) (i : ℕ) (x : X) (best : Option (ℕ × X))
    → i < length xs → x ≡ get_or xs i x → IsBestOf passes less xs i best
    → IsBestOf passes less xs (i + 1) (next_best passes less best i x)
best_more {X} passes less ranked xs i x best lt read is =
    let here : (d : X) → get_or xs i d ≡ x = λ d. get_or_default xs i d x lt ∙ sym read in
    cond_both (passes x && is_better less best x) (Some (i, x)) best (IsBestOf passes less xs (i + 1))
    (λ h. let parts = and_parts (passes x) (is_better less best x) h in taken passes less ranked xs i x best here read is parts.0 parts.1)
    (λ h. kept passes less xs i x best here is h)

-- the best one passes
pub best_counts : {X : Type 0} (passes : X → Bool) (less : X → X → Bool) (xs : List X) (i : ℕ)
    (best : Option (ℕ × X)) → IsBestOf passes less xs i best
    → passes_if_there passes best ≡ true
best_counts passes less xs i None none = refl
best_counts passes less xs i (Some best) is = is.counts

-- ---- at the end

-- none that passes exceeds it
abbrev pub is_top : {X : Type 0} → (X → Bool) → (X → X → Bool) → List X → X → Bool
is_top passes less xs x = passes x && list_all (λ y. not (passes y && less x y)) xs

not_both : (p q : Bool) → (p ≡ true → q ≡ false) → not (p && q) ≡ true
not_both true q differs = ap not (differs refl)
not_both false q differs = refl

exceeds : (p q : Bool) → p ≡ true → q ≡ true → not (p && q) ≡ false
exceeds p q holds more = ap not (and_from p q holds more)

earlier : {X : Type 0} (passes : X → Bool) (less : X → X → Bool) (xs : List X) (j : ℕ) (best y : X) (b : Bool)
    → passes y ≡ b → j < length xs → best ≡ get_or xs j best
    → passes best ≡ true → (passes y ≡ true → less y best ≡ true) → is_top passes less xs y ≡ false
earlier passes less xs j best y false is lt at counts more = and_left (passes y)
    (list_all (λ z. not (passes z && less y z)) xs) is
earlier passes less xs j best y true is lt at counts more =
    and_right (passes y) (list_all (λ z. not (passes z && less y z)) xs)
    (list_all_at (λ z. not (passes z && less y z)) xs j best lt (ap (λ z. not (passes z && less y z)) (sym at)
    ∙ exceeds (passes best) (less y best) counts (more is)))

place_of_none : {X : Type 0} (test : X → Bool) (xs : List X) → position_or_len test xs ≡ length xs
    → position test xs ≡ None
place_of_none test xs is = ap (λ b. cond b (Some (position_or_len test xs)) None)
    (le-ltb (position_or_len test xs) (length xs) (omega (arith, is)))

place_of_some : {X : Type 0} (test : X → Bool) (xs : List X) (j : ℕ) → position_or_len test xs ≡ j
    → j < length xs → position test xs ≡ Some j
place_of_some test xs j is lt =
    ap (λ b. cond b (Some (position_or_len test xs)) None)
    (lt-ltb (position_or_len test xs) (length xs) (omega (arith, is, lt))) ∙ ap Some is

-- the first element that passes and that none that passes exceeds, and its number
pub record IsFound {X : Type 0} (test : X → Bool) (xs : List X) (best : Option (ℕ × X)) : Type 0 where
  pub number : option_map (λ (p : ℕ × X). p.0) best ≡ position test xs
  pub found : option_map (λ (p : ℕ × X). p.1) best ≡ find test xs
  pub bound : (i : ℕ) → option_map (λ (p : ℕ × X). p.0) best ≡ Some i → i < length xs

none_found : {X : Type 0} (test : X → Bool) (xs : List X) → position_or_len test xs ≡ length xs → IsFound test xs None
none_found test xs is = record {
  number = sym (place_of_none test xs is);
  found = sym (find_at test xs ∙ slice_get_past xs (position_or_len test xs) (omega (arith, is)));
  bound = λ i h. cc;
}

all_fail : {X : Type 0} (passes : X → Bool) (less : X → X → Bool) (xs : List X)
    → IsBestOf passes less xs (length xs) None → position_or_len (is_top passes less xs) xs ≡ length xs
all_fail passes less [] none = refl
all_fail passes less (x ∷ xs) none =
    position_or_len_is (is_top passes less (x ∷ xs)) (x ∷ xs) (length (x ∷ xs)) x (omega arith)
    (λ k lt. and_left (passes (get_or (x ∷ xs) k x)) (list_all (λ y. not (passes y && less (get_or (x ∷ xs) k x) y)) (x ∷ xs))
    (none k x lt)) (λ lt. absurd (omega (arith, lt)))

best_passes : {X : Type 0} (passes : X → Bool) (less : X → X → Bool) (xs : List X) (j : ℕ) (best : X)
    → IsBest passes less xs (length xs) j best → is_top passes less xs best ≡ true
best_passes passes less xs j best is =
    and_from (passes best) (list_all (λ y. not (passes y && less best y)) xs) is.counts
    (list_all-from_AllPass (λ y. not (passes y && less best y)) xs
    (λ k d lt. not_both (passes (get_or xs k d)) (less best (get_or xs k d)) (is.top k d lt)))

best_at : {X : Type 0} (passes : X → Bool) (less : X → X → Bool) (xs : List X) (j : ℕ) (best : X)
    → IsBest passes less xs (length xs) j best → position_or_len (is_top passes less xs) xs ≡ j
best_at passes less xs j best is =
    let lt : j < length xs = is.within in
    position_or_len_is (is_top passes less xs) xs j best (omega (arith, lt))
    (λ k h. earlier passes less xs j best (get_or xs k best) (passes (get_or xs k best)) refl lt is.at is.counts (is.first k best h))
    (λ h. ap (is_top passes less xs) (sym is.at) ∙ best_passes passes less xs j best is)

pub best_found : {X : Type 0} (passes : X → Bool) (less : X → X → Bool) (xs : List X) (best : Option (ℕ × X))
    → IsBestOf passes less xs (length xs) best
    → IsFound (is_top passes less xs) xs best
best_found passes less xs None none = none_found (is_top passes less xs) xs (all_fail passes less xs none)
best_found passes less xs (Some best) is =
    let lt : best.0 < length xs = is.within in
    let place = best_at passes less xs best.0 best.1 is in
    record {
      number = sym (place_of_some (is_top passes less xs) xs best.0 place lt);
      found = sym (find_at (is_top passes less xs) xs ∙ ap (slice_get xs) place
          ∙ slice_get_read xs (length xs) best.0 best.1 refl lt is.at);
      bound = λ i h. let same : best.0 ≡ i = cc in omega (arith, lt, same);
    }

-- ---- a reference seen as what it lends

pub lent_number : {R X : Type 0} (now : R → X) (best : Option (ℕ × R))
    → option_map (λ (p : ℕ × R). p.0) best ≡ option_map (λ (p : ℕ × X). p.0)
    (option_map (λ (p : ℕ × R). (p.0, now p.1)) best)
lent_number now None = refl
lent_number now (Some best) = refl

pub lent_element : {R X : Type 0} (now : R → X) (best : Option (ℕ × R))
    → option_map (λ (p : ℕ × R). now p.1) best ≡ option_map (λ (p : ℕ × X). p.1)
    (option_map (λ (p : ℕ × R). (p.0, now p.1)) best)
lent_element now None = refl
lent_element now (Some best) = refl
