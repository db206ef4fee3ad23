use Rattle.std.proofs.Common.{◌-◌, length, take}
use Rattle.dns_rules.specs.ChainedSets.{bare}
use Rattle.dns_trail.specs.Indexed.{AreIndexed}
use Rattle.dns_trail.proofs.places.places_of_sets.Given as goal

-- the sets so far have their places
abbrev pub invariant-each : goal.invariant-each
invariant-each l = AreIndexed l.places (bare (take l.place l.sets))
