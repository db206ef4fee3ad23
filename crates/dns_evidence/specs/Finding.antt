-- Elements of a list that are found by a number, as equal ones have equal numbers.
use Rattle.std.specs.Prelude.{ℕ, ◌≡◌, ◌+◌, ◌*◌, ◌%◌, ◌^◌, ◌<◌, Bool, true, false, ◌==◌, List, [], ◌∷◌, ◌++◌, length, Option, None, Some, Vec, slice_get, slice_index_or, if◌then◌else◌}
use Rattle.std.specs.List.{list_any}
use Rattle.std.specs.Ordering.{nat_cmp}
use Rattle.std.specs.BTreeMap.{BTreeMap, get}

-- a number of 64 bits, mixed with one byte more
abbrev pub mixed_once : ℕ → ℕ → ℕ
mixed_once seed byte = (seed * 1099511628211 % 2 ^ 64 + byte) % 2 ^ 64

-- and with more bytes
unfoldable pub mixed : ℕ → List ℕ → ℕ
mixed seed [] = seed
mixed seed (byte ∷ bytes) = mixed (mixed_once seed byte) bytes

abbrev pub items_or_none : {Z : Type 0} → Option (Vec ℕ Z) → List ℕ
items_or_none None = []
items_or_none (Some places) = places.items

-- the places that are kept for a number
unfoldable pub places_at : {Z : Type 0} → BTreeMap ℕ (Vec ℕ Z) → ℕ → List ℕ
places_at places number = items_or_none (get nat_cmp places number)

-- the same, once a place was added to those of a number
abbrev pub places_after : {Z : Type 0} → BTreeMap ℕ (Vec ℕ Z) → ℕ → ℕ → ℕ → List ℕ
places_after places number place n =
    if number == n then places_at places n ++ place ∷ [] else places_at places n

abbrev pub passes : {X : Type 0} → (X → Bool) → Option X → Bool
passes test None = false
passes test (Some x) = test x

-- the element at a place passes
abbrev pub passes_at : {X : Type 0} → (X → Bool) → List X → ℕ → Bool
passes_at test xs place = passes test (slice_get xs place)

-- the place of each element is kept for its number
abbrev pub Covers : {X Z : Type 0} → (X → ℕ) → BTreeMap ℕ (Vec ℕ Z) → List X → Type 0
Covers {X} number places xs = (i : ℕ) (x : X) → i < length xs → x ≡ slice_index_or xs i x
    → list_any (λ place. i == place) (places_at places (number x)) ≡ true
