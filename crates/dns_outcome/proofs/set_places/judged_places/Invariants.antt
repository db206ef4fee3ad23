use Rattle.std.proofs.Common.{take}
use Rattle.dns_rules.specs.ChainedSets.{bare}
use Rattle.dns_outcome.specs.SetPlaces.{ArePlacedIn}
use Rattle.dns_outcome.proofs.set_places.judged_places.Given as goal

abbrev pub invariant-loop-place : goal.invariant-loop-place
invariant-loop-place l = ArePlacedIn l.places l.section (bare (take l.place l.sets))
