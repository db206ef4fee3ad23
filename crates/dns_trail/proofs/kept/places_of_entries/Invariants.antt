use Rattle.std.proofs.Common.{◌-◌, length, take}
use Rattle.dns_trail.specs.Indexed.{AreKeyed}
use Rattle.dns_trail.proofs.kept.places_of_entries.Given as goal

-- the entries so far have their places
abbrev pub invariant-each : goal.invariant-each
invariant-each l = AreKeyed l.places (take l.place l.entries)
