-- For private functions alone: positions of records in a list, in an order of the records that stand there.
use Rattle.std.specs.Prelude.{◌≡◌, ℕ, ◌<◌, ◌≤◌, Bool, true, false, List, [], length, slice_index_or}
use Rattle.std.specs.declared.cmp.Ordering.{Ordering}
use Rattle.std.specs.declared.cmp.Ordering.TheVariants.{Less}
use Rattle.std.specs.List.{Contains}
use Rattle.dns_aggressive.specs.declared.kept.KeptRecord.TheVariants.{Nsec}
use Rattle.dns_aggressive.specs.Records.{KeptValue}
use Rattle.dns_aggressive.specs.Lists.{same_place}
use Rattle.dns_aggressive.specs.Places.{record_cmp}

-- a record for positions past the end
abbrev pub nowhere : KeptValue
nowhere = record {
  zone = [];
  item = Nsec
      (record { owner = []; fields = record { next = []; types = [] } });
  expires = 0;
}

abbrev pub at : List KeptValue → ℕ → KeptValue
at kept position = slice_index_or kept position nowhere

-- the position that stands at this number of an order
abbrev pub nth : List ℕ → ℕ → ℕ
nth order number = slice_index_or order number 0

-- its record
abbrev pub nth_of : List KeptValue → List ℕ → ℕ → KeptValue
nth_of kept order number = at kept (nth order number)

-- each position is one of the first ones, so many
pub record AreInside (count : ℕ) (order : List ℕ) : Type 0 where
  pub each : (i : ℕ) → i < length order → nth order i < count

-- the records rise
pub record AreRising (cmp : KeptValue → KeptValue → Ordering) (kept : List KeptValue) (order : List ℕ) : Type 0 where
  pub each : (i j : ℕ) → i < j → j < length order → cmp (nth_of kept order i) (nth_of kept order j) ≡ Less

-- ---- a search

-- what stands in front of a record that passes does too
pub record IsFront (passes : KeptValue → Bool) (kept : List KeptValue) (order : List ℕ) : Type 0 where
  pub each : (i j : ℕ) → i ≤ j → j < length order → passes (nth_of kept order j) ≡ true
      → passes (nth_of kept order i) ≡ true

-- those before this number pass, and the others don't
pub record IsParted (passes : KeptValue → Bool) (kept : List KeptValue) (order : List ℕ) (low high : ℕ) : Type 0 where
  pub order_ : low ≤ high
  pub within : high ≤ length order
  pub front : (k : ℕ) → k < low → passes (nth_of kept order k) ≡ true
  pub back : (k : ℕ) → high ≤ k → k < length order → passes (nth_of kept order k) ≡ false

-- ---- the newest record of each place

-- of the first ones, so many, none after this one has its place
pub record IsLatest (kept : List KeptValue) (count position : ℕ) : Type 0 where
  pub each : (later : ℕ) → position < later → later < count → same_place (at kept position) (at kept later) ≡ false

-- the latest of the first ones, so many, in order of their places
pub record IsPlaced (kept : List KeptValue) (count : ℕ) (order : List ℕ) : Type 0 where
  pub inside : AreInside count order
  pub rising : AreRising record_cmp kept order
  pub there : (position : ℕ) → position < count → IsLatest kept count position → Contains order position
  pub last : (i : ℕ) → i < length order → IsLatest kept count (nth order i)

-- from this position on each record is the latest of the first ones
pub record AreLatest (kept : List KeptValue) (from count : ℕ) : Type 0 where
  pub each : (position : ℕ) → from ≤ position → position < count → IsLatest kept count position
