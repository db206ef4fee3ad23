use Rattle.std.proofs.Common.{◌≤◌, ◌-◌}
use Rattle.dns_bench_zones.proofs.zone.Zone.last.Given as goal

abbrev pub invariant-zones : goal.invariant-zones
invariant-zones l = l.zone ≤ l.zones

abbrev pub decreases-zones : goal.decreases-zones
decreases-zones l = l.zones - l.zone
