use Rattle.std.proofs.Common.{◌≡◌, ◌≤◌, ◌-◌, ◌++◌}
use Rattle.dns_bench_zones.specs.NestedZones.{zones_told}
use Rattle.dns_bench_zones.proofs.upstream.tell_zones.Given as goal

-- what is told of the zones down to this one
abbrev pub invariant-zones : goal.invariant-zones
invariant-zones l = record {
  within : l.zone ≤ l.zones;
  told : l.handle ≡ record l.fn.handle { replies = l.fn.handle.replies ++ zones_told l.zone };
}

abbrev pub decreases-zones : goal.decreases-zones
decreases-zones l = l.zones - l.zone
