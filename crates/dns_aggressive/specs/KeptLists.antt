-- For private functions alone: records in order, and where they are found.
use Rattle.std.specs.Prelude.{◌≡◌, ℕ, ◌≤◌, List, length}
use Rattle.dns_aggressive.specs.declared.expiries.Expiries.{Expiries}
use Rattle.dns_aggressive.specs.Records.{KeptValue}
use Rattle.dns_aggressive.specs.Orders.{AreLatest, IsPlaced}
use Rattle.dns_model.specs.Names.{Labels}
use Rattle.dns_model.specs.Owned.{OwnedNsec}
use Rattle.dns_aggressive.specs.declared.zone_run.ZoneRun.{ZoneRun}
use Rattle.dns_aggressive.specs.Expiring.{AreExpiries, HaveAll}
use Rattle.dns_aggressive.specs.Reaching.{nsecs_of, AreReaching}
use Rattle.dns_aggressive.specs.ZoneRuns.{IsZoneRun}

-- records, of which the first ones are gone: all in order of their places, those that aren't gone by when they
-- expire, and those that reach
pub record IsKeptList (kept : List KeptValue) (gone : ℕ) (order : List ℕ) (expiries : Expiries)
    (reaching : List ℕ) : Type 0 where
  pub within : gone ≤ length kept
  pub latest : AreLatest kept gone (length kept)
  pub placed : IsPlaced kept (length kept) order
  pub expiring : AreExpiries kept (length kept) expiries
  pub all : HaveAll gone (length kept) expiries
  pub reach : AreReaching kept (length kept) reaching

-- the live NSEC records of a zone, in order of their places
pub record AreNsecsOf (list : List KeptValue) (zone : Labels) (now : ℕ) (nsecs : List OwnedNsec) : Type 0 where
  pub run : ZoneRun
  pub is : IsZoneRun list zone run
  pub are : nsecs ≡ nsecs_of run now
