-- For private functions alone: flags of records that stay, and where these move.
use Rattle.std.specs.Prelude.{◌≡◌, ℕ, ◌<◌, ◌≤◌, Bool, true, false, List, [], length, take, slice_index_or}
use Rattle.std.specs.List.{Contains, filter}
use Rattle.std.specs.Vec.{vec_capacity}
use Rattle.dns_aggressive.specs.declared.compacting.Room.{Room}
use Rattle.dns_aggressive.specs.Orders.{nth}

-- nothing yet, and room for so many
pub record HasRoom (count : ℕ) (room : Room) : Type 0 where
  pub no_flag : room.stays.items ≡ []
  pub no_number : room.moved.items ≡ []
  pub flags : count ≤ vec_capacity room.stays
  pub numbers : count ≤ vec_capacity room.moved

abbrev pub flag_at : List Bool → ℕ → Bool
flag_at flags position = slice_index_or flags position false

-- so many flags: those are set that stand in an order and aren't gone
pub record AreMarked (order : List ℕ) (gone len : ℕ) (flags : List Bool) : Type 0 where
  pub long : length flags ≡ len
  pub set_ : (position : ℕ) → gone ≤ position → Contains order position → flag_at flags position ≡ true
  pub unset : (position : ℕ) → flag_at flags position ≡ true → (gone ≤ position) × Contains order position

-- how many flags are set
unfoldable pub count_set : List Bool → ℕ
count_set flags = length (filter (λ flag. flag) flags)

-- for each of the first ones, so many, how many flags are set before it
pub record AreCounted (flags : List Bool) (count : ℕ) (numbers : List ℕ) : Type 0 where
  pub long : length numbers ≡ count
  pub each : (position : ℕ) → position < count → nth numbers position ≡ count_set (take position flags)
