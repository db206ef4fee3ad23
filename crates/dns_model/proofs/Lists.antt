-- Facts on lists alone.
use Rattle.std.proofs.Common.{◌≡◌, List, [], ◌∷◌, ◌++◌, length, take, drop, refl, Bool, Some, slice_get, true}
use Rattle.std.specs.Map.{lookup}
use Rattle.std.proofs.lemmas.List.{take_at, drop_at}
use Rattle.dns_model.specs.Sections.{is_empty}

-- the front part of two lists joined
pub take-front : {X : Type 0} (xs ys : List X) → take (length xs) (xs ++ ys) ≡ xs
take-front xs ys = take_at xs ys (length xs) refl

-- the back part of two lists joined
pub drop-front : {X : Type 0} (xs ys : List X) → drop (length xs) (xs ++ ys) ≡ ys
drop-front xs ys = drop_at xs ys (length xs) refl

-- the element right behind a front part
pub slice_get_appended : {X : Type 0} (xs : List X) (x : X) (ys : List X) → slice_get (xs ++ x ∷ ys) (length xs) ≡ Some x
slice_get_appended [] x ys = refl
slice_get_appended (z ∷ xs) x ys = slice_get_appended xs x ys

-- tests that agree look up alike
pub lookup-same : {K X : Type 0} (p r : K → Bool) → ((x : K) → p x ≡ r x) → (es : List (K × X)) → lookup p es ≡ lookup r es
lookup-same p r alike [] = refl
lookup-same p r alike (e ∷ es) = rw (alike e.0, lookup-same p r alike es) refl

pub empty_is : {X : Type 0} (xs : List X) → is_empty xs ≡ true → xs ≡ []
empty_is [] h = refl
empty_is (x ∷ xs) h = cc
