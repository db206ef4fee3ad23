-- For private functions alone: the parts of an index of NSEC3 records. Hashes lie on a circle: past the places of one lap come those of a
-- second one.
use Rattle.std.specs.Prelude.{◌≡◌, ℕ, ◌+◌, ◌*◌, ◌<◌, ◌^◌, nat_lt, true, List, [], ◌∷◌, length, map, slice_index_or, take, Option, None, Some, if◌then◌else◌}
use Rattle.std.specs.List.{flat_map}
use Rattle.std.specs.List.Sorted.{IsPermutation}
use Rattle.dns_model.specs.Owned.{OwnedNsec3}
use Rattle.dns_rules.specs.Nsec3Covering.{is_considered, owner_hash, hash_before}
use Rattle.dns_denial_index.specs.declared.nsec3_index.HashPair.{HashPair}
use Rattle.dns_denial_index.specs.declared.spans.Span.{Span}
use Rattle.dns_denial_index.specs.Places.{is_point, place_of}
use Rattle.dns_denial_index.specs.Spans.{TableValue}

-- the owner's hash and the next one
abbrev pub both_hashes : OwnedNsec3 → HashPair
both_hashes nsec3 = record { owner = owner_hash nsec3; next = nsec3.fields.next }

-- None of a record that is ignored
abbrev pub hashes_of : OwnedNsec3 → Option HashPair
hashes_of nsec3 = if is_considered nsec3 then Some (both_hashes nsec3) else None

abbrev pub keys_of_hashes : Option HashPair → List (List ℕ)
keys_of_hashes None = []
keys_of_hashes (Some hashes) = hashes.owner ∷ hashes.next ∷ []

abbrev pub hash_keys : OwnedNsec3 → List (List ℕ)
hash_keys nsec3 = keys_of_hashes (hashes_of nsec3)

-- how many places a lap has
abbrev pub lap : List (List ℕ) → ℕ
lap points = 2 * length points + 1

-- where the hashes between two end: in the second lap, where they go past the greatest hash
abbrev pub end_place : List (List ℕ) → List ℕ → List ℕ → ℕ
end_place points owner next = if hash_before owner next then place_of points next else place_of points next + lap points

-- what lies between two hashes; nothing of a record that is ignored, which starts in the second lap
abbrev pub span_of_hashes : List (List ℕ) → Option HashPair → Span
span_of_hashes points None = record { start = lap points; end = 0 }
span_of_hashes points (Some hashes) =
    record { start = place_of points hashes.owner; end = end_place points hashes.owner hashes.next }

-- the span of a record
abbrev pub hash_span : List (List ℕ) → OwnedNsec3 → Span
hash_span points nsec3 = span_of_hashes points (hashes_of nsec3)

-- what lies between two places, the same
abbrev pub span_between : ℕ → ℕ → ℕ → Span
span_between start end lap = record { start = start; end = if nat_lt start end then end else end + lap }

-- the two hashes are points
pub record AreHashPoints (points : List (List ℕ)) (hashes : HashPair) : Type 0 where
  pub owner : is_point points hashes.owner ≡ true
  pub next : is_point points hashes.next ≡ true

-- those of a record are, unless it is ignored
pub record IsHashPlaced (points : List (List ℕ)) (nsec3 : OwnedNsec3) : Type 0 where
  pub hashes : is_considered nsec3 ≡ true → AreHashPoints points (both_hashes nsec3)

pub record AreHashPlaced (points : List (List ℕ)) (nsec3s : List OwnedNsec3) : Type 0 where
  pub each : (number : ℕ) (d : OwnedNsec3) → number < length nsec3s → IsHashPlaced points (slice_index_or nsec3s number d)

-- the spans of so many records, whose hashes have the places before this number
pub record AreSpannedTo (points : List (List ℕ)) (nsec3s : List OwnedNsec3) (count next : ℕ) (found : List Span) : Type 0 where
  pub keys : next ≡ length (flat_map hash_keys (take count nsec3s))
  pub spans : found ≡ map (hash_span points) (take count nsec3s)

-- the points are the hashes of the records, and the table has their spans over two laps
pub record IsNsec3Index (nsec3s : List OwnedNsec3) (points : List (List ℕ)) (table : TableValue) : Type 0 where
  pub few : length nsec3s < 2 ^ 32
  pub keys : IsPermutation (flat_map hash_keys nsec3s) points
  pub spans : table.spans ≡ map (hash_span points) nsec3s
  pub places : table.places ≡ lap points + lap points
