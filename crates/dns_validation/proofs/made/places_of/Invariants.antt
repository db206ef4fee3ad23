use Rattle.std.proofs.Common.{take}
use Rattle.dns_validation.specs.MadePlaces.{ArePlaces}
use Rattle.dns_validation.proofs.made.places_of.Given as goal

-- those so far have their places
abbrev pub invariant-each : goal.invariant-each
invariant-each l = ArePlaces l.places (take l.place l.all)
