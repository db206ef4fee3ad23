-- For private functions alone: where keys stand among points, which are keys in order. Keys are strings of bytes.
use Rattle.std.specs.Prelude.{◌≡◌, ℕ, ◌+◌, ◌-◌, ◌*◌, ◌^◌, ◌<◌, ◌≤◌, Bool, true, false, List, [], ◌∷◌, length, map, slice_index_or, if◌then◌else◌}
use Rattle.std.specs.Cmp.Lexicographic.{slice_cmp}
use Rattle.std.specs.List.{count_by, list_any}
use Rattle.std.specs.List.Sorted.{IsPermutation, IsSorted}
use Rattle.std.specs.Ordering.{nat_cmp, is_lt, is_eq}

abbrev pub key_before : List ℕ → List ℕ → Bool
key_before one two = is_lt (slice_cmp nat_cmp one two)

abbrev pub same_key : List ℕ → List ℕ → Bool
same_key one two = is_eq (slice_cmp nat_cmp one two)

-- how many points come before the key
unfoldable pub rank : List (List ℕ) → List ℕ → ℕ
rank points key = count_by (λ point. key_before point key) points

abbrev pub is_point : List (List ℕ) → List ℕ → Bool
is_point points key = list_any (λ point. same_key point key) points

-- each point has an odd place, and the gaps around it the even ones
abbrev pub place_of : List (List ℕ) → List ℕ → ℕ
place_of points key = if is_point points key then 2 * rank points key + 1 else 2 * rank points key

-- a search: the points below the one number come before the key, those from the other one on don't, and whether the key was met
pub record IsSearched (points : List (List ℕ)) (key : List ℕ) (low high : ℕ) (met : Bool) : Type 0 where
  pub order : low ≤ high
  pub inside : high ≤ length points
  pub before : (k : ℕ) (d : List ℕ) → k < low → key_before (slice_index_or points k d) key ≡ true
  pub after : (k : ℕ) (d : List ℕ) → high ≤ k → k < length points → key_before (slice_index_or points k d) key ≡ false
  pub found : met ≡ true → is_point points key ≡ true
  pub unmet : met ≡ false → (k : ℕ) (d : List ℕ) → high ≤ k → k < length points → same_key (slice_index_or points k d) key ≡ false

-- so many turns halved the width of the search
pub record IsHalved (points wide taken : ℕ) : Type 0 where
  pub width : 2 ^ taken * wide ≤ points
  pub turns : 2 ^ taken ≤ 2 * points + 1
  pub ticks : points + 1 < 2 ^ taken * (wide + 2)

-- the search after the turns between these two counts
pub record IsTurned (points : List (List ℕ)) (key : List ℕ) (low high : ℕ) (met : Bool) (from to : ℕ) : Type 0 where
  pub searched : IsSearched points key low high met
  pub rises : from ≤ to
  pub halved : IsHalved (length points) (high - low) (to - from)

-- keys with their numbers, from this one on
abbrev pub number_all : ℕ → List (List ℕ) → List (List ℕ × ℕ)
number_all from [] = []
number_all from (key ∷ keys) = (key, from) ∷ number_all (from + 1) keys

abbrev pub key_of : List ℕ × ℕ → List ℕ
key_of numbered = numbered.0

-- these keys in order, each with its number in the order in which they were given
pub record IsNumbered (keys : List (List ℕ)) (numbered : List (List ℕ × ℕ)) : Type 0 where
  pub all : IsPermutation (number_all 0 keys) numbered
  pub order : IsSorted (slice_cmp nat_cmp) (map key_of numbered)

-- of so many points in order the first one that is the last of them has this number
pub record IsFirstOf (points : List (List ℕ)) (count first : ℕ) : Type 0 where
  pub order : first ≤ count - 1
  pub before : (k : ℕ) (d : List ℕ) → k < first → key_before (slice_index_or points k d) (slice_index_or points first d) ≡ true
  pub last : (d : List ℕ) → 0 < count → slice_index_or points (count - 1) d ≡ slice_index_or points first d

-- so many keys in order have their places, each at its number
pub record IsPlacedTo (keys : List (List ℕ)) (numbered : List (List ℕ × ℕ)) (count first : ℕ) (found : List ℕ) : Type 0 where
  pub long : length found ≡ length keys
  pub start : IsFirstOf (map key_of numbered) count first
  pub places : (k : ℕ) (d : List ℕ × ℕ) → k < count
      → slice_index_or found ((slice_index_or numbered k d).1) 0 ≡ place_of (map key_of numbered) ((slice_index_or numbered k d).0)
