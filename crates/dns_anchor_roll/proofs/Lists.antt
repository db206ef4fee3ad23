-- Facts on lists alone: the first in time, and the first that passes a test.
use Rattle.std.proofs.Common.{◌≡◌, ℕ, Bool, true, false, cond, not, ◌&&◌, ◌||◌, List, [], ◌∷◌, ◌++◌, map, reverse, Option, None, Some, Result, Ok, Err, OnErr, is_some, slice_get, unwrap_or, refl, sym, ap, ◌∙◌}
use Rattle.std.specs.List.{filter, find, flat_map, list_any}
use Rattle.std.specs.Option.{option_or}
use Rattle.std.proofs.lemmas.List.{reverse-append}
use Rattle.std.proofs.lemmas.List.Sorted.{IsPermutation-reverse, list_any-IsPermutation}
use Rattle.std.proofs.lemmas.List.Folds.{find-append, list_any-append}

-- the older ones first, and the newest behind them
pub reverse_cons : {X : Type 0} (x : X) (xs : List X) → reverse (x ∷ xs) ≡ reverse xs ++ x ∷ []
reverse_cons x xs = reverse-append (x ∷ []) xs

first_append : {X : Type 0} (xs : List X) (x : X) → slice_get (xs ++ x ∷ []) 0 ≡ Some (unwrap_or (slice_get xs 0) x)
first_append [] x = refl
first_append (y ∷ xs) x = refl

-- the first in time stays, once there is a newer one
pub first_cons : {X : Type 0} (x : X) (xs : List X) → slice_get (reverse (x ∷ xs)) 0 ≡ Some (unwrap_or (slice_get (reverse xs) 0) x)
first_cons x xs = ap (λ ys. slice_get ys 0) (reverse_cons x xs) ∙ first_append (reverse xs) x

abbrev pub only_if : {X : Type 0} → Bool → X → Option X
only_if b x = cond b (Some x) None

-- the first in time that passes
pub find_cons : {X : Type 0} (p : X → Bool) (x : X) (xs : List X)
    → find p (reverse (x ∷ xs)) ≡ option_or (find p (reverse xs)) (only_if (p x) x)
find_cons p x xs = ap (find p) (reverse_cons x xs) ∙ find-append p (reverse xs) (x ∷ [])

found_step : {X : Type 0} (b : Bool) (x : X) (r : Option X) (s : Bool) → is_some r ≡ s → is_some (cond b (Some x) r) ≡ (b || s)
found_step true x r s e = refl
found_step false x r s e = e

pub is_some_find : {X : Type 0} (p : X → Bool) (xs : List X) → is_some (find p xs) ≡ list_any p xs
is_some_find p [] = refl
is_some_find p (x ∷ xs) = found_step (p x) x (find p xs) (list_any p xs) (is_some_find p xs)

pub is_some_oldest : {X : Type 0} (p : X → Bool) (xs : List X) → is_some (find p (reverse xs)) ≡ list_any p xs
is_some_oldest p xs = is_some_find p (reverse xs) ∙ sym (list_any-IsPermutation p xs (reverse xs) (IsPermutation-reverse xs))

-- ---- tests that agree

kept_agree : {X : Type 0} (b c : Bool) (x : X) (xs ys : List X) → b ≡ c → xs ≡ ys → cond b (x ∷ xs) xs ≡ cond c (x ∷ ys) ys
kept_agree b c x xs ys e f = ap (λ d. cond d (x ∷ xs) xs) e ∙ ap (λ zs. cond c (x ∷ zs) zs) f

pub filter_agree : {X : Type 0} (p q : X → Bool) → ((x : X) → p x ≡ q x) → (xs : List X) → filter p xs ≡ filter q xs
filter_agree p q same [] = refl
filter_agree p q same (x ∷ xs) = kept_agree (p x) (q x) x (filter p xs) (filter q xs) (same x) (filter_agree p q same xs)

-- ---- whether an element of a filter, or of several lists, passes

filter_step : {X : Type 0} (p : X → Bool) (b : Bool) (x : X) (xs : List X) (c : Bool) → list_any p xs ≡ c
    → list_any p (cond b (x ∷ xs) xs) ≡ ((b && p x) || c)
filter_step p true x xs c e = ap (λ d. p x || d) e
filter_step p false x xs c e = e

pub any_filter : {X : Type 0} (p q : X → Bool) (xs : List X) → list_any p (filter q xs) ≡ list_any (λ x. q x && p x) xs
any_filter p q [] = refl
any_filter p q (x ∷ xs) = filter_step p (q x) x (filter q xs) (list_any (λ y. q y && p y) xs) (any_filter p q xs)

pub any_flat_map : {X Y : Type 0} (p : Y → Bool) (f : X → List Y) (xs : List X) → list_any p (flat_map f xs) ≡ list_any (λ x. list_any p (f x)) xs
any_flat_map p f [] = refl
any_flat_map p f (x ∷ xs) = list_any-append p (f x) (flat_map f xs) ∙ ap (λ b. list_any p (f x) || b) (any_flat_map p f xs)

and_or : (c a b : Bool) → ((c && a) || (c && b)) ≡ (c && (a || b))
and_or true a b = refl
and_or false a b = refl

none_of : {X : Type 0} (xs : List X) → list_any (λ x. false) xs ≡ false
none_of [] = refl
none_of (x ∷ xs) = none_of xs

pub any_and : {X : Type 0} (c : Bool) (p : X → Bool) (xs : List X) → list_any (λ x. c && p x) xs ≡ (c && list_any p xs)
any_and true p xs = refl
any_and false p xs = none_of xs

or_swap : (a b c d : Bool) → ((a || b) || (c || d)) ≡ ((a || c) || (b || d))
or_swap true b c d = refl
or_swap false true true d = refl
or_swap false true false d = refl
or_swap false false true d = refl
or_swap false false false d = refl

pub any_or : {X : Type 0} (p q : X → Bool) (xs : List X) → list_any (λ x. p x || q x) xs ≡ (list_any p xs || list_any q xs)
any_or p q [] = refl
any_or p q (x ∷ xs) = ap (λ b. (p x || q x) || b) (any_or p q xs) ∙ or_swap (p x) (q x) (list_any p xs) (list_any q xs)

-- some pair of two lists passes, whichever is gone through first
pub any_swap : {X Y : Type 0} (t : X → Y → Bool) (xs : List X) (ys : List Y)
    → list_any (λ x. list_any (t x) ys) xs ≡ list_any (λ y. list_any (λ x. t x y) xs) ys
any_swap t [] ys = sym (none_of ys)
any_swap t (x ∷ xs) ys =
    ap (λ b. list_any (t x) ys || b) (any_swap t xs ys) ∙ sym (any_or (t x) (λ y. list_any (λ z. t z y) xs) ys)

-- what holds, holds after an error
pub after_error : {X E P : Type 0} (r : Result X E) → P → OnErr r P
after_error (Ok x) h = tt
after_error (Err e) h = h
