-- Lists whose elements all pass, and the first element that passes two tests, or that is found where copies are left out.
use Rattle.std.proofs.Common.{◌≡◌, ℕ, zero, suc, Bool, true, false, cond, List, [], ◌∷◌, ◌++◌, take, Option, None, Some, refl, ap, ◌∙◌}
use Rattle.std.specs.Prelude.{◌&&◌}
use Rattle.std.specs.Option.{option_or}
use Rattle.std.specs.List.{filter, find, list_any, list_all, AllByRecursion}
use Rattle.std.proofs.Math.Logic.{⊎_elim}
use Rattle.std.proofs.lemmas.Bool.{and_parts, or_cases}
use Rattle.std.proofs.lemmas.List.Folds.{find-append}

-- ---- each element

pub each_all : {X : Type 0} (p : X → Bool) (P : X → Type 0) → ((x : X) → p x ≡ true → P x) → (xs : List X)
    → list_all p xs ≡ true → AllByRecursion P xs
each_all p P f [] h = tt
each_all p P f (x ∷ xs) h = let parts = and_parts (p x) (list_all p xs) h in (f x parts.0, each_all p P f xs parts.1)

pub each_taken : {X : Type 0} (P : X → Type 0) (n : ℕ) (xs : List X) → AllByRecursion P xs → AllByRecursion P (take n xs)
each_taken P zero xs h = tt
each_taken P (suc n) [] h = tt
each_taken P (suc n) (x ∷ xs) h = (h.0, each_taken P n xs h.1)

none_step : {X : Type 0} (b : Bool) (x : X) (rest : Option X) → cond b (Some x) rest ≡ None → (b ≡ false) × (rest ≡ None)
none_step true x rest h = cc
none_step false x rest h = (refl, h)

-- none passes where none is found
pub each_fails : {X : Type 0} (p : X → Bool) (xs : List X) → find p xs ≡ None → AllByRecursion (λ x. p x ≡ false) xs
each_fails p [] h = tt
each_fails p (x ∷ xs) h = let parts = none_step (p x) x (find p xs) h in (parts.0, each_fails p xs parts.1)

-- ---- two tests

both_step : {X : Type 0} (test : X → Bool) (b : Bool) (x : X) (found : Option X) (kept : List X) → found ≡ find test kept
    → cond (b && test x) (Some x) found ≡ find test (cond b (x ∷ kept) kept)
both_step test true x found kept h = ap (cond (test x) (Some x)) h
both_step test false x found kept h = h

-- the first that passes two tests is the first of those that pass one
pub find-both : {X : Type 0} (may test : X → Bool) (xs : List X) → find (λ x. may x && test x) xs ≡ find test (filter may xs)
find-both may test [] = refl
find-both may test (x ∷ xs) = both_step test (may x) x (find (λ y. may y && test y) xs) (filter may xs) (find-both may test xs)

-- ---- copies

or_none : {X : Type 0} (o : Option X) → option_or o None ≡ o
or_none None = refl
or_none (Some x) = refl

failed_last : {X : Type 0} (test : X → Bool) (met : List X) (x : X) → test x ≡ false → find test (met ++ x ∷ []) ≡ find test met
failed_last test met x h =
    find-append test met (x ∷ []) ∙ ap (λ b. option_or (find test met) (cond b (Some x) None)) h ∙ or_none (find test met)

copy_step : {X : Type 0} (test : X → Bool) (b : Bool) (x y : X) (met : List X) → test x ≡ b
    → cond b (Some y) (find test (met ++ x ∷ [])) ≡ cond b (Some y) (find test met)
copy_step test true x y met h = refl
copy_step test false x y met h = failed_last test met x h

-- an element changes nothing behind one that the test doesn't tell from it
pub find-copy : {X : Type 0} (same : X → X → Bool) (test : X → Bool) (met : List X) (x : X)
    → AllByRecursion (λ y. same x y ≡ true → test x ≡ test y) met → list_any (same x) met ≡ true → find test (met ++ x ∷ []) ≡ find test met
find-copy same test [] x alike h = cc
find-copy same test (y ∷ met) x alike h =
    ⊎_elim (λ (e : same x y ≡ true). copy_step test (test y) x y met (alike.0 e))
    (λ (e : list_any (same x) met ≡ true). ap (cond (test y) (Some y)) (find-copy same test met x alike.1 e))
    (or_cases (same x y) (list_any (same x) met) h)

-- lists in which the same is found, each with one element more
pub find-more : {X : Type 0} (test : X → Bool) (some all : List X) (x : X) → find test some ≡ find test all
    → find test (some ++ x ∷ []) ≡ find test (all ++ x ∷ [])
find-more test some all x h =
    find-append test some (x ∷ []) ∙ ap (λ o. option_or o (find test (x ∷ []))) h ∙ rw (find-append test all (x ∷ [])) refl
