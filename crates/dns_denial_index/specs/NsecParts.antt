-- For private functions alone: the parts of an index of NSEC records.
use Rattle.std.specs.Prelude.{◌≡◌, ℕ, ◌+◌, ◌-◌, ◌*◌, ◌<◌, ◌^◌, ◌&&◌, Bool, true, false, List, [], ◌∷◌, length, map, slice_index_or, Option, None, Some}
use Rattle.std.specs.List.{flat_map, slice_get}
use Rattle.std.specs.List.Sorted.{IsPermutation}
use Rattle.dns_model.specs.Owned.{OwnedNsec}
use Rattle.dns_denial_index.specs.declared.spans.Span.{Span}
use Rattle.dns_denial_index.specs.NameKeys.{name_key, end_key}
use Rattle.dns_denial_index.specs.Places.{is_point, place_of}
use Rattle.dns_denial_index.specs.Spans.{TableValue, first_from}

-- the keys of a record's owner and of its end
abbrev pub keys_of : OwnedNsec → List (List ℕ)
keys_of nsec = name_key nsec.owner ∷ end_key nsec ∷ []

-- the span of a record, by the places of the two
abbrev pub nsec_span : List (List ℕ) → OwnedNsec → Span
nsec_span points nsec = record { start = place_of points (name_key nsec.owner); end = place_of points (end_key nsec) }

-- what lies between each two places
abbrev pub paired : List ℕ → List Span
paired [] = []
paired (start ∷ []) = []
paired (start ∷ end ∷ places) = record { start = start; end = end } ∷ paired places

-- the two keys are points
pub record IsPlaced (points : List (List ℕ)) (nsec : OwnedNsec) : Type 0 where
  pub owner : is_point points (name_key nsec.owner) ≡ true
  pub end : is_point points (end_key nsec) ≡ true

pub record ArePlaced (points : List (List ℕ)) (nsecs : List OwnedNsec) : Type 0 where
  pub each : (number : ℕ) (d : OwnedNsec) → number < length nsecs → IsPlaced points (slice_index_or nsecs number d)

-- the points are the keys of the records, and the table has their spans
pub record IsNsecIndex (nsecs : List OwnedNsec) (points : List (List ℕ)) (table : TableValue) : Type 0 where
  pub few : length nsecs < 2 ^ 32
  pub keys : IsPermutation (flat_map keys_of nsecs) points
  pub spans : table.spans ≡ map (nsec_span points) nsecs
  pub places : table.places ≡ 2 * length points + 1

-- a walk over the elements that pass the first test: those so far fail the second, and the next one is this
pub record IsWalked {X : Type 0} (test other : X → Bool) (xs : List X) (next : Option ℕ) : Type 0 where
  pub from : ℕ
  pub is : next ≡ first_from test from xs
  pub none : (k : ℕ) (d : X) → k < from → k < length xs → (test (slice_index_or xs k d) && other (slice_index_or xs k d)) ≡ false

-- how many elements may be left of so many
abbrev pub left_of : ℕ → Option ℕ → ℕ
left_of count None = 0
left_of count (Some number) = count - number

-- the element with a number, where there is one
abbrev pub numbered : {X : Type 0} → List X → Option ℕ → Option X
numbered xs None = None
numbered xs (Some number) = slice_get xs number
