use Rattle.std.proofs.Common.{◌≡◌, take}
use Rattle.dns_aggressive.specs.Denials.{nsec3s_in}
use Rattle.dns_aggressive.specs.Groups.{lent}
use Rattle.dns_aggressive.specs.ZoneRuns.{standing}
use Rattle.dns_aggressive.proofs.zone_run.ZoneRun.nsec3s_at.Given as goal

abbrev pub invariant-loop-position : goal.invariant-loop-position
invariant-loop-position l = lent l.nsec3s.items ≡ nsec3s_in (standing l.self l.now (take l.position-index l.positions))
