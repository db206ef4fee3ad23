-- For private functions of this crate only: elements of a list that are found by a key, as equal ones have one key.
use Rattle.std.specs.Prelude.{ℕ, ◌≡◌, ◌<◌, true, ◌==◌, List, [], ◌∷◌, ◌++◌, Vec, length, slice_index_or, if◌then◌else◌}
use Rattle.std.specs.declared.cmp.Ordering.{Ordering}
use Rattle.std.specs.Ordering.{is_eq}
use Rattle.std.specs.List.{list_any}
use Rattle.std.specs.BTreeMap as tree
use Rattle.std.specs.BTreeMap.{BTreeMap}
use Rattle.dns_evidence.specs.Finding.{items_or_none}

-- the place of each element is kept for its key
pub record KeepsPlaces {X K : Type 0} (key : X → K) (places : K → List ℕ) (xs : List X) : Type 0 where
  pub each : (i : ℕ) (x : X) → i < length xs → x ≡ slice_index_or xs i x
      → list_any (λ place. i == place) (places (key x)) ≡ true

-- among these places of a list are those of all elements with a key
pub record KeepsAllOf {X K : Type 0} (key : X → K) (k : K) (places : List ℕ) (xs : List X) : Type 0 where
  pub each : (i : ℕ) (x : X) → i < length xs → x ≡ slice_index_or xs i x → key x ≡ k
      → list_any (λ place. i == place) places ≡ true

-- the places under a key of a map whose keys have this order
abbrev pub places_under : {K Z : Type 0} → (K → K → Ordering) → BTreeMap K (Vec ℕ Z) → K → List ℕ
places_under cmp places key = items_or_none (tree.get cmp places key)

-- a key has one more place behind its others
abbrev pub AddedPlace : {K Z : Type 0} → (K → K → Ordering) → BTreeMap K (Vec ℕ Z) → BTreeMap K (Vec ℕ Z) → K → ℕ → Type 0
AddedPlace {K} cmp old new key place =
    (k : K) → places_under cmp new k ≡ places_under cmp old k ++ (if is_eq (cmp key k) then place ∷ [] else [])
