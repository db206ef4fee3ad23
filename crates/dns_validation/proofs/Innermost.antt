-- The innermost open step is the last one that the state keeps.
use Rattle.std.proofs.Common.{◌≡◌, suc, ◌-◌, List, [], ◌∷◌, ◌++◌, length, reverse, Option, None, Some, slice_get, refl, sym, ap, ◌∙◌, arith}
use Rattle.std.specs.Option.{option_map}
use Rattle.std.proofs.lemmas.List.{reverse-append}
use Rattle.dns_validation.specs.Machine.{OpenValue, depth_below}

record Innermost (steps : List OpenValue) (f : OpenValue) : Type 0 where
  outer : List OpenValue
  is : reverse steps ≡ f ∷ outer

last_is : (x y : OpenValue) (ys : List OpenValue)
    → slice_get (x ∷ y ∷ ys) (length (x ∷ y ∷ ys) - 1) ≡ slice_get (y ∷ ys) (length (y ∷ ys) - 1)
last_is x y ys =
    let one : length (x ∷ y ∷ ys) - 1 ≡ suc (length (y ∷ ys) - 1) = omega arith in ap (slice_get (x ∷ y ∷ ys)) one

innermost : (steps : List OpenValue) (f : OpenValue) → slice_get steps (length steps - 1) ≡ Some f → Innermost steps f
innermost [] f h = cc
innermost (x ∷ []) f h = let same : x ≡ f = cc in record { outer = []; is = ap (λ z. z ∷ []) same }
innermost (x ∷ y ∷ ys) f h =
    let rest = innermost (y ∷ ys) f (sym (last_is x y ys) ∙ h) in
    record { outer = rest.outer ++ x ∷ []; is = reverse-append (x ∷ []) (y ∷ ys) ∙ ap (λ t. t ++ x ∷ []) rest.is }

none_last : (steps : List OpenValue) → slice_get steps (length steps - 1) ≡ None → steps ≡ []
none_last [] h = refl
none_last (x ∷ []) h = cc
none_last (x ∷ y ∷ ys) h = let no = none_last (y ∷ ys) (sym (last_is x y ys) ∙ h) in cc

-- its depth
depth_by : (steps : List OpenValue) (o : Option OpenValue) → slice_get steps (length steps - 1) ≡ o
    → option_map (λ f. f.so_far.depth) o ≡ depth_below (reverse steps)
depth_by steps None h = ap (λ xs. depth_below (reverse xs)) (sym (none_last steps h))
depth_by steps (Some f) h = sym (ap depth_below (innermost steps f h).is)

pub depth_last : (steps : List OpenValue)
    → option_map (λ f. f.so_far.depth) (slice_get steps (length steps - 1)) ≡ depth_below (reverse steps)
depth_last steps = depth_by steps (slice_get steps (length steps - 1)) refl
