-- For private functions alone: positions of records by when these expire, those of one zone or of one group together.
use Rattle.std.specs.Prelude.{◌≡◌, ◌⊎◌, ℕ, ◌+◌, ◌-◌, ◌^◌, ◌<◌, ◌≤◌, min, Bool, true, List, [], length, Option, None, Some, if◌then◌else◌}
use Rattle.std.specs.Borrow.{Bor}
use Rattle.std.specs.List.{Contains}
use Rattle.std.specs.Ordering.{is_le, nat_cmp, ordering_then}
use Rattle.std.specs.Vec.{vec_capacity}
use Rattle.std.specs.declared.cmp.Ordering.{Ordering}
use Rattle.dns_model.specs.Names.{Labels, name_cmp}
use Rattle.dns_model.specs.Types.{type_nsec, type_nsec3}
use Rattle.dns_rules.specs.Nsec3Verdict.{Parameters}
use Rattle.dns_aggressive.specs.declared.expiries.Expiries.{Expiries}
use Rattle.dns_aggressive.specs.declared.sorting.Sorting.{Sorting}
use Rattle.dns_aggressive.specs.declared.sorting.Sorting.TheVariants.{ByZone, ByGroup}
use Rattle.dns_aggressive.specs.Records.{KeptValue}
use Rattle.dns_aggressive.specs.Lists.{Place, place_of}
use Rattle.dns_aggressive.specs.Places.{group_cmp}
use Rattle.dns_aggressive.specs.Orders.{nth, nth_of, AreInside}

-- ---- keys

abbrev pub ExpiryKey : Type 0
ExpiryKey = Bor Labels × ℕ × ℕ × Bor (List ℕ) × ℕ

-- the group of a key, as a place in it
abbrev pub group_in : ExpiryKey → Place
group_in key = record { zone = key.0.now; owner = []; rtype = key.1; iterations = key.2; salt = key.3.now }

abbrev pub in_group : Place → Place
in_group place =
    record { zone = place.zone; owner = []; rtype = place.rtype; iterations = place.iterations; salt = place.salt }

abbrev pub group_of : KeptValue → Place
group_of kept = in_group (place_of kept)

-- the group of a zone's NSEC records, or of those that are hashed in a way
abbrev pub group_at : Labels → Option Parameters → Place
group_at zone None = record { zone = zone; owner = []; rtype = type_nsec; iterations = 0; salt = [] }
group_at zone (Some way) =
    record { zone = zone; owner = []; rtype = type_nsec3; iterations = way.iterations; salt = way.salt }

abbrev pub expiry_cmp : Sorting → KeptValue → KeptValue → Ordering
expiry_cmp ByZone one two = ordering_then (name_cmp one.zone two.zone) (nat_cmp one.expires two.expires)
expiry_cmp ByGroup one two = ordering_then (group_cmp (place_of one) (place_of two)) (nat_cmp one.expires two.expires)

-- a record beside a group at a moment
abbrev pub moment_cmp : KeptValue → ExpiryKey → Ordering
moment_cmp kept key = ordering_then (group_cmp (place_of kept) (group_in key)) (nat_cmp kept.expires key.4)

-- seconds that a record has left, where it is one of those that count
abbrev pub left_if : Bool → ℕ → ℕ
left_if counts seconds = if counts then min seconds (2 ^ 32 - 1) else 2 ^ 32 - 1

-- ---- orders

-- no record comes after a later one
pub record AreSorted (cmp : KeptValue → KeptValue → Ordering) (kept : List KeptValue) (order : List ℕ) : Type 0 where
  pub each : (i j : ℕ) → i < j → j < length order → is_le (cmp (nth_of kept order i) (nth_of kept order j)) ≡ true

-- of the first ones, so many
pub record IsOrder (cmp : KeptValue → KeptValue → Ordering) (kept : List KeptValue) (count : ℕ) (order : List ℕ) : Type 0 where
  pub inside : AreInside count order
  pub sorted : AreSorted cmp kept order

-- all positions from the one on, and none before it
pub record HasAll (gone count : ℕ) (order : List ℕ) : Type 0 where
  pub later : (i : ℕ) → i < length order → gone ≤ nth order i
  pub there : (position : ℕ) → gone ≤ position → position < count → Contains order position

-- one position more
pub record IsWith (before after : List ℕ) (position : ℕ) : Type 0 where
  pub long : length after ≡ length before + 1
  pub here : Contains after position
  pub there : (other : ℕ) → Contains before other → Contains after other
  pub only : (i : ℕ) → i < length after → (nth after i ≡ position) ⊎ Contains before (nth after i)

-- ---- both orders

pub record AreExpiries (kept : List KeptValue) (count : ℕ) (expiries : Expiries) : Type 0 where
  pub by_zone : IsOrder (expiry_cmp ByZone) kept count expiries.by_zone.items
  pub by_group : IsOrder (expiry_cmp ByGroup) kept count expiries.by_group.items

pub record HaveAll (gone count : ℕ) (expiries : Expiries) : Type 0 where
  pub by_zone : HasAll gone count expiries.by_zone.items
  pub by_group : HasAll gone count expiries.by_group.items

-- room for so many more
pub record HasSpace (more : ℕ) (expiries : Expiries) : Type 0 where
  pub by_zone : length expiries.by_zone.items + more ≤ vec_capacity expiries.by_zone
  pub by_group : length expiries.by_group.items + more ≤ vec_capacity expiries.by_group
