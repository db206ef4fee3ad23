use Rattle.std.proofs.Common.{◌≡◌, take}
use Rattle.dns_roll.specs.TrustedText.{sightings_in}
use Rattle.dns_roll.proofs.seen.sightings_of.Given as goal

-- those of the sights so far
abbrev pub invariant-loop-sight : goal.invariant-loop-sight
invariant-loop-sight l = l.all.items ≡ sightings_in l.zone (take l.sight-index l.sights)
