use Rattle.std.proofs.Common.{◌≡◌, ◌≤◌, ◌-◌, [], ◌∷◌}
use Rattle.dns_bench_zones.specs.NestedZones.{accepted_to}
use Rattle.dns_bench_zones.proofs.judging.zones_verifier.Given as goal

-- what is accepted of the zones down to this one
abbrev pub invariant-zones : goal.invariant-zones
invariant-zones l = record {
  within : l.zone ≤ l.zones;
  accepted : l.verifier ≡ record { algorithms = 13 ∷ []; accepted = accepted_to l.zone };
}

abbrev pub decreases-zones : goal.decreases-zones
decreases-zones l = l.zones - l.zone
