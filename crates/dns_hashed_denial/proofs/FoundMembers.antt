-- What is found in a list is one of its elements, and where nothing is found none passes.
use Rattle.std.proofs.Common.{◌≡◌, Bool, true, false, ◌||◌, List, [], ◌∷◌, None, Some, refl, ap}
use Rattle.std.specs.List.{list_any, list_all, find, AllByRecursion}
use Rattle.std.proofs.lemmas.Bool.{and_parts, or_right, or_from}
use Rattle.dns_model.proofs.EachLemmas.{each_more, IsFound, find_known}
use Rattle.dns_rules.proofs.Members.{IsMember}
use Rattle.dns_rules.proofs.FindLemmas.{each_fails}

first_member : {X : Type 0} (x : X) (xs : List X) → IsMember x (x ∷ xs)
first_member x xs = record
    { all = λ p h. (and_parts (p x) (list_all p xs) h).0; any = λ p h. ap (λ b. b || list_any p xs) h }

later_member : {X : Type 0} (x y : X) (xs : List X) → IsMember y xs → IsMember y (x ∷ xs)
later_member x y xs m = record {
  all = λ p h. m.all p ((and_parts (p x) (list_all p xs) h).1);
  any = λ p h. or_right (p x) (list_any p xs) (m.any p h);
}

each_member : {X : Type 0} (xs : List X) → AllByRecursion (λ x. IsMember x xs) xs
each_member [] = tt
each_member (x ∷ xs) = (
  first_member x xs,
  each_more (λ y. IsMember y xs) (λ y. IsMember y (x ∷ xs)) (λ y m. later_member x y xs m) xs
      (each_member xs),
)

pub found : {X : Type 0} (p : X → Bool) (xs : List X) (x : X) → find p xs ≡ Some x → IsFound p (λ y. IsMember y xs) x
found p xs x h = find_known p (λ y. IsMember y xs) xs x (each_member xs) h

any_fails : {X : Type 0} (p : X → Bool) (xs : List X) → AllByRecursion (λ x. p x ≡ false) xs → list_any p xs ≡ false
any_fails p [] h = refl
any_fails p (x ∷ xs) h = or_from (p x) (list_any p xs) h.0 (any_fails p xs h.1)

pub none_found : {X : Type 0} (p : X → Bool) (xs : List X) → find p xs ≡ None → list_any p xs ≡ false
none_found p xs h = any_fails p xs (each_fails p xs h)

-- a test that follows from another passes wherever that does
pub all_follow : {X : Type 0} (p q : X → Bool) (xs : List X) → ((x : X) → p x ≡ true → q x ≡ true)
    → list_all p xs ≡ true
    → list_all q xs ≡ true
all_follow p q [] f h = refl
all_follow p q (x ∷ xs) f h =
    let parts = and_parts (p x) (list_all p xs) h in
    rw (f x parts.0, all_follow p q xs f parts.1) refl
