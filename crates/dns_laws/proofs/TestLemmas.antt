-- What tests that pass say of optional values and of the elements of lists.
use Rattle.std.proofs.Common.{◌≡◌, Bool, true, false, cond, List, [], ◌∷◌, length, Option, None, Some, slice_get, refl, sym, ap, ◌∙◌, arith, ◌==◌}
use Rattle.std.specs.Prelude.{◌||◌}
use Rattle.std.specs.Option.{option_map_or}
use Rattle.std.specs.List.{filter, find, list_any, AllByRecursion}
use Rattle.std.proofs.lemmas.Bool.{or_cases}
use Rattle.std.proofs.Math.Logic.{⊎_elim}
use Rattle.std.proofs.lemmas.Option.{same_Some}
use Rattle.dns_model.proofs.SetLemmas.{number_same}

-- ---- optional values

pub record Passing {X : Type 0} (test : X → Bool) (o : Option X) : Type 0 where
  pub value : X
  pub found : o ≡ Some value
  pub passes : test value ≡ true

pub passing : {X : Type 0} (test : X → Bool) (o : Option X) → option_map_or test o false ≡ true → Passing test o
passing test None h = cc
passing test (Some x) h = record { value = x; found = refl; passes = h }

-- ---- lists

pub record IsOne {X : Type 0} (xs : List X) : Type 0 where
  pub value : X
  pub is : xs ≡ value ∷ []

pub one_is : {X : Type 0} (xs : List X) → (length xs == 1) ≡ true → IsOne xs
one_is [] h = cc
one_is (x ∷ []) h = record { value = x; is = refl }
one_is (x ∷ y ∷ ys) h = absurd (omega (arith, number_same (length (x ∷ y ∷ ys)) 1 h))

-- the first of a list of one
pub only_first : {X : Type 0} (xs : List X) (a b : X) → xs ≡ a ∷ [] → slice_get xs 0 ≡ Some b → a ≡ b
only_first xs a b is h = same_Some a b (sym (ap (λ ys. slice_get ys 0) is) ∙ h)

-- the first of a list
pub record Begins {X : Type 0} (xs : List X) : Type 0 where
  pub first : X
  pub rest : List X
  pub is : xs ≡ first ∷ rest

kept_begins : {X : Type 0} (p : X → Bool) (b : Bool) (x : X) (xs : List X) → (b ≡ false → Begins (filter p xs))
    → Begins (cond b (x ∷ filter p xs) (filter p xs))
kept_begins p true x xs later = record { first = x; rest = filter p xs; is = refl }
kept_begins p false x xs later = later refl

-- where an element passes the first test, and those that pass it pass the second, the second keeps one
pub some_kept : {X : Type 0} (p q : X → Bool) (xs : List X) → ((x : X) → q x ≡ true → p x ≡ true) → list_any q xs ≡ true
    → Begins (filter p xs)
some_kept p q [] passes h = cc
some_kept p q (x ∷ xs) passes h =
    kept_begins p (p x) x xs
    (λ fails. ⊎_elim (λ here. cc (passes x here, fails)) (λ later. some_kept p q xs passes later) (or_cases (q x) (list_any q xs) h))

pub all_kept : {X : Type 0} (p : X → Bool) (xs : List X) → AllByRecursion (λ x. p x ≡ true) xs → filter p xs ≡ xs
all_kept p [] h = refl
all_kept p (x ∷ xs) h = ap (λ b. cond b (x ∷ filter p xs) (filter p xs)) h.0 ∙ ap (λ ys. x ∷ ys) (all_kept p xs h.1)

pub none_found : {X : Type 0} (p : X → Bool) (xs : List X) → AllByRecursion (λ x. p x ≡ false) xs → find p xs ≡ None
none_found p [] h = refl
none_found p (x ∷ xs) h = ap (λ b. cond b (Some x) (find p xs)) h.0 ∙ none_found p xs h.1

pub none_any : {X : Type 0} (p : X → Bool) (xs : List X) → AllByRecursion (λ x. p x ≡ false) xs → list_any p xs ≡ false
none_any p [] h = refl
none_any p (x ∷ xs) h = ap (λ b. b || list_any p xs) h.0 ∙ none_any p xs h.1

-- tests that agree on the elements of a list keep the same
pub kept_alike : {X : Type 0} (p q : X → Bool) (xs : List X) → AllByRecursion (λ x. p x ≡ q x) xs → filter p xs ≡ filter q xs
kept_alike p q [] h = refl
kept_alike p q (x ∷ xs) h =
    ap (λ b. cond b (x ∷ filter p xs) (filter p xs)) h.0 ∙ ap (λ ys. cond (q x) (x ∷ ys) ys) (kept_alike p q xs h.1)

pub found_alone : {X : Type 0} (test : X → Bool) (x : X) → test x ≡ true → find test (x ∷ []) ≡ Some x
found_alone test x h = ap (λ b. cond b (Some x) None) h

found_step : {X : Type 0} (test : X → Bool) (b : Bool) (x : X) (rest : Option X) → test x ≡ b → (b ≡ false → Passing test rest)
    → Passing test (cond b (Some x) rest)
found_step test true x rest is later = record { value = x; found = refl; passes = is }
found_step test false x rest is later = later refl

any_later : (b c : Bool) → (b || c) ≡ true → b ≡ false → c ≡ true
any_later true c h is = cc
any_later false c h is = h

-- where an element passes, one is found
pub any_found : {X : Type 0} (test : X → Bool) (xs : List X) → list_any test xs ≡ true → Passing test (find test xs)
any_found test [] h = cc
any_found test (x ∷ xs) h =
    found_step test (test x) x (find test xs) refl (λ fails. any_found test xs (any_later (test x) (list_any test xs) h fails))
