-- Tests that are true or false, and elements that a test picks from a list.
use Rattle.std.proofs.Common.{◌≡◌, Bool, true, false, not, ◌&&◌, ◌||◌, List, [], ◌∷◌, refl, sym, ap, true≢false}
use Rattle.std.specs.List.{list_any, list_all, AllByRecursion}
use Rattle.std.proofs.lemmas.Bool.{and_parts, or_right, not-true}

-- ---- tests

pub after_not : (a b : Bool) → a ≡ true → (not a || b) ≡ true → b ≡ true
after_not true b h k = k
after_not false b h k = absurd (true≢false (sym h))

pub not_and : (a b : Bool) → not (a && b) ≡ true → a ≡ true → b ≡ false
not_and true b h e = not-true b h
not_and false b h e = absurd (true≢false (sym e))

-- ---- members of a list

-- what holds of all elements holds of this one, and what holds of it holds of some
pub record IsMember {X : Type 0} (x : X) (xs : List X) : Type 0 where
  pub all : (p : X → Bool) → list_all p xs ≡ true → p x ≡ true
  pub any : (p : X → Bool) → p x ≡ true → list_any p xs ≡ true

pub record IsPicked {X : Type 0} (p : X → Bool) (xs : List X) : Type 0 where
  pub it : X
  pub passes : p it ≡ true
  pub member : IsMember it xs

member_here : {X : Type 0} (x : X) (xs : List X) → IsMember x (x ∷ xs)
member_here x xs = record { all = λ p h. (and_parts (p x) (list_all p xs) h).0; any = λ p h. ap (λ b. b || list_any p xs) h }

member_later : {X : Type 0} (x y : X) (xs : List X) → IsMember y xs → IsMember y (x ∷ xs)
member_later x y xs m = record {
  all = λ p h. m.all p ((and_parts (p x) (list_all p xs) h).1);
  any = λ p h. or_right (p x) (list_any p xs) (m.any p h);
}

later : {X : Type 0} (p : X → Bool) (x : X) (xs : List X) → IsPicked p xs → IsPicked p (x ∷ xs)
later p x xs k = record { it = k.it; passes = k.passes; member = member_later x k.it xs k.member }

pick : {X : Type 0} (p : X → Bool) (x : X) (xs : List X) (b : Bool) → p x ≡ b → (list_any p xs ≡ true → IsPicked p xs)
    → (b || list_any p xs) ≡ true
    → IsPicked p (x ∷ xs)
pick p x xs true e rest h = record { it = x; passes = e; member = member_here x xs }
pick p x xs false e rest h = later p x xs (rest h)

pub picked : {X : Type 0} (p : X → Bool) (xs : List X) → list_any p xs ≡ true → IsPicked p xs
picked p [] h = absurd (true≢false (sym h))
picked p (x ∷ xs) h = pick p x xs (p x) refl (picked p xs) h

-- one of a list whose elements are all known
pub record IsKnown {X : Type 0} (p : X → Bool) (P : X → Type 0) : Type 0 where
  pub it : X
  pub passes : p it ≡ true
  pub known : P it

know : {X : Type 0} (p : X → Bool) (P : X → Type 0) (x : X) (rest : Bool) (b : Bool) → p x ≡ b → P x
    → (rest ≡ true → IsKnown p P) → (b || rest) ≡ true
    → IsKnown p P
know p P x rest true e k later h = record { it = x; passes = e; known = k }
know p P x rest false e k later h = later h

pub picked_known : {X : Type 0} (p : X → Bool) (P : X → Type 0) (xs : List X) → AllByRecursion P xs → list_any p xs ≡ true → IsKnown p P
picked_known p P [] each h = absurd (true≢false (sym h))
picked_known p P (x ∷ xs) each h = know p P x (list_any p xs) (p x) refl each.0 (picked_known p P xs each.1) h
