-- For private functions alone: the records of one zone, as a run of positions in order of places.
use Rattle.std.specs.Prelude.{◌≡◌, ℕ, ◌<◌, ◌≤◌, Bool, true, ◌&&◌, nat_le, List, length, drop, Option, None, Some, is_some, if◌then◌else◌}
use Rattle.std.specs.Option.{option_and_then}
use Rattle.std.specs.List.{Contains, filter_map}
use Rattle.std.specs.List.Sorted.{IsStrictlyIncreasing}
use Rattle.dns_model.specs.Names.{Labels, name_eq}
use Rattle.dns_aggressive.specs.declared.zone_run.ZoneRun.{ZoneRun}
use Rattle.dns_aggressive.specs.Records.{KeptValue, is_live, nsec3_of}
use Rattle.dns_aggressive.specs.Places.{record_cmp}
use Rattle.dns_aggressive.specs.Orders.{at, nth_of, AreInside, AreLatest, AreRising}

-- the record at a position, where it isn't gone and still used
abbrev pub standing_at : List KeptValue → ℕ → ℕ → ℕ → Option KeptValue
standing_at kept gone now position =
    if nat_le gone position && is_live now (at kept position) then Some (at kept position) else None

-- those of a run
abbrev pub standing : ZoneRun → ℕ → List ℕ → List KeptValue
standing run now positions = filter_map (standing_at run.kept.now run.gone now) positions

abbrev pub is_hashed : KeptValue → Option Bool
is_hashed kept = if is_some (nsec3_of kept.item) then Some true else None

abbrev pub stands_hashed : ZoneRun → ℕ → ℕ → Bool
stands_hashed run now position = is_some (option_and_then is_hashed (standing_at run.kept.now run.gone now position))

-- the same positions in ascending order, each once
pub record IsAscending (positions ascending : List ℕ) : Type 0 where
  pub rising : IsStrictlyIncreasing ascending
  pub there : (position : ℕ) → Contains positions position → Contains ascending position
  pub only : (position : ℕ) → Contains ascending position → Contains positions position

-- the run has the positions of the zone's records that aren't gone, in order of places, and those of no other zone
pub record IsZoneRun (list : List KeptValue) (zone : Labels) (run : ZoneRun) : Type 0 where
  pub is : drop run.gone run.kept.now ≡ list
  pub latest : AreLatest run.kept.now run.gone (length run.kept.now)
  pub inside : AreInside (length run.kept.now) run.positions.now
  pub rising : AreRising record_cmp run.kept.now run.positions.now
  pub only : (i : ℕ) → i < length run.positions.now
      → name_eq (nth_of run.kept.now run.positions.now i).zone zone ≡ true
  pub each : (position : ℕ) → run.gone ≤ position → position < length run.kept.now
      → name_eq (at run.kept.now position).zone zone ≡ true → Contains run.positions.now position
