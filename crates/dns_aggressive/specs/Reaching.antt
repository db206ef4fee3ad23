-- For private functions alone: NSEC records whose names go on behind the owner that comes next, and the searches that they matter for.
use Rattle.std.specs.Prelude.{◌≡◌, ℕ, ◌<◌, Bool, true, false, ◌&&◌, ◌||◌, List, length, Option, None, Some, if◌then◌else◌}
use Rattle.std.specs.List.{Contains}
use Rattle.std.specs.Option.{option_and_then}
use Rattle.dns_model.specs.Names.{Labels, before, name_eq}
use Rattle.dns_model.specs.Owned.{OwnedNsec}
use Rattle.dns_rules.specs.Covering.{leads_back, nsec_spans}
use Rattle.dns_aggressive.specs.declared.sorting.Sorting.TheVariants.{ByZone}
use Rattle.dns_aggressive.specs.declared.zone_run.ZoneRun.{ZoneRun}
use Rattle.dns_aggressive.specs.Records.{KeptValue, nsec_of}
use Rattle.dns_aggressive.specs.Denials.{nsecs_in}
use Rattle.dns_aggressive.specs.Expiring.{expiry_cmp, IsOrder}
use Rattle.dns_aggressive.specs.Orders.{at, nth_of, AreInside, IsLatest}
use Rattle.dns_aggressive.specs.ZoneRuns.{standing, standing_at, IsZoneRun}

-- ---- what reaches

-- the second owner comes after the first, and the names of the first record go on behind it
abbrev pub nsec_reaches : Option OwnedNsec → Option OwnedNsec → Bool
nsec_reaches (Some one) (Some two) = before one.owner two.owner && (before two.owner one.fields.next || leads_back one)
nsec_reaches (Some one) None = false
nsec_reaches None two = false

abbrev pub reaches : KeptValue → KeptValue → Bool
reaches one two = name_eq one.zone two.zone && nsec_reaches (nsec_of one.item) (nsec_of two.item)

-- of the newest of so many records each that reaches behind another one, zone by zone
pub record AreReaching (kept : List KeptValue) (count : ℕ) (reaching : List ℕ) : Type 0 where
  pub order : IsOrder (expiry_cmp ByZone) kept (length kept) reaching
  pub each : (p q : ℕ) → p < count → q < count → IsLatest kept count p → IsLatest kept count q
      → reaches (at kept p) (at kept q) ≡ true → Contains reaching p

-- the positions of one zone
pub record IsZonePart (kept : List KeptValue) (zone : Labels) (order part : List ℕ) : Type 0 where
  pub inside : AreInside (length kept) part
  pub only : (i : ℕ) → i < length part → name_eq (nth_of kept part i).zone zone ≡ true
  pub each : (p : ℕ) → Contains order p → name_eq (at kept p).zone zone ≡ true → Contains part p

-- ---- searches

-- the NSEC records of a run that are live
abbrev pub nsecs_of : ZoneRun → ℕ → List OwnedNsec
nsecs_of run now = nsecs_in (standing run now run.positions.now)

-- the NSEC record at a position, where it isn't gone and still used
abbrev pub nsec_at : ZoneRun → ℕ → ℕ → Option OwnedNsec
nsec_at run now position = option_and_then (λ k. nsec_of k.item) (standing_at run.kept.now run.gone now position)

abbrev pub keep_if : (OwnedNsec → Bool) → Option OwnedNsec → Option OwnedNsec
keep_if test None = None
keep_if test (Some nsec) = if test nsec then Some nsec else None

-- the same, where it spans a name
abbrev pub spanning_at : ZoneRun → ℕ → Labels → ℕ → Option OwnedNsec
spanning_at run now name position = keep_if (nsec_spans name) (nsec_at run now position)

abbrev pub nsec_before : Labels → Option OwnedNsec → Bool
nsec_before name None = false
nsec_before name (Some nsec) = before nsec.owner name

-- NSEC records whose owner comes before a name
abbrev pub is_before : Labels → KeptValue → Bool
is_before name kept = nsec_before name (nsec_of kept.item)

-- of what spans a name at some positions none has a greater owner
pub record IsBest (run : ZoneRun) (now : ℕ) (name : Labels) (positions : List ℕ) (best : Option OwnedNsec) : Type 0 where
  pub found : (x : OwnedNsec) → best ≡ Some x → (p : ℕ) × Contains positions p × (spanning_at run now name p ≡ Some x)
  pub least : (p : ℕ) (x : OwnedNsec) → Contains positions p → spanning_at run now name p ≡ Some x
      → (y : OwnedNsec) × (best ≡ Some y) × (before y.owner x.owner ≡ false)

-- a run of some zone, with those of its records that reach
pub record IsSearchable (run : ZoneRun) (reaching : List ℕ) : Type 0 where
  pub zone : Labels
  pub list : List KeptValue
  pub is : IsZoneRun list zone run
  pub inside : AreInside (length run.kept.now) reaching
  pub only : (i : ℕ) → i < length reaching → name_eq (nth_of run.kept.now reaching i).zone zone ≡ true
  pub each : (p q : ℕ) → Contains run.positions.now p → Contains run.positions.now q
      → reaches (at run.kept.now p) (at run.kept.now q) ≡ true → Contains reaching p

-- the one of two records that has the greater owner
abbrev pub nearer : Option OwnedNsec → Option OwnedNsec → Option OwnedNsec
nearer (Some one) (Some two) = if before one.owner two.owner then Some two else Some one
nearer None next = next
nearer (Some one) None = Some one
