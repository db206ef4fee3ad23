-- For private functions of this crate only: names of a message that were spelled already (RFC 1035, 4.1.4).
use Rattle.std.specs.Prelude.{◌≡◌, ℕ, ◌+◌, ◌<◌, ◌≤◌, ◌⊎◌, ◌++◌, ◌∷◌, [], true, List, length, drop, slice_index, slice_range, Ok}
use Rattle.dns_model.specs.Names.{Labels, wire, is_name}
use Rattle.dns_message.specs.NameAt.{name_at}
use Rattle.dns_message.specs.declared.known_names.KnownNames.{KnownNames}
use Rattle.dns_message.specs.declared.known_names.Passed.{Passed}

-- these bytes are the wire form of the name at a place
pub record IsKnown (bytes : List ℕ) (place : ℕ) (spelled : List ℕ) : Type 0 where
  pub labels : Labels
  pub next : ℕ
  pub told : name_at bytes place ≡ Ok (labels, next)
  pub written : spelled ≡ wire labels
  pub good : is_name labels ≡ true

-- a part of the spelled bytes
abbrev pub part_of : List ℕ → ℕ → ℕ → List ℕ
part_of spelled start size = slice_range spelled start (start + size)

-- a place has no name, or its own, which lies among the spelled bytes
pub record IsPartKept (bytes spelled : List ℕ) (place start size : ℕ) : Type 0 where
  pub inside : 0 < size → start + size ≤ length spelled
  pub known : 0 < size → IsKnown bytes place (part_of spelled start size)

-- the table's rows are those of names
pub record AreKept (bytes spelled starts sizes : List ℕ) : Type 0 where
  pub long : length starts ≡ length sizes
  pub each : (place : ℕ) → place < length sizes → IsPartKept bytes spelled place (slice_index starts place) (slice_index sizes place)

-- the names that are kept are those at their places
abbrev pub AreKnown : List ℕ → KnownNames → Type 0
AreKnown bytes names = AreKept bytes names.spelled.items names.starts.items names.sizes.items

-- what a name has behind so many bytes is the name at the place
pub record IsPassed (bytes name : List ℕ) (one : Passed) : Type 0 where
  pub inside : one.size < length name
  pub short : length name ≤ 255
  pub known : IsKnown bytes one.place (drop one.size name)

-- where a place is noted, it is the last one
abbrev pub HasPassed : ℕ → ℕ → List Passed → List Passed → Type 0
HasPassed place size old new = (new ≡ old) ⊎ (new ≡ old ++ (record { place = place; size = size }) ∷ [])
