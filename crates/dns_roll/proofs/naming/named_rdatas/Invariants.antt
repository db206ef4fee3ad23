use Rattle.std.proofs.Common.{◌≡◌, ◌++◌, take}
use Rattle.std.specs.List.{flat_map}
use Rattle.dns_roll.specs.TrustedText.{rdatas_in, texts_of}
use Rattle.dns_roll.proofs.naming.named_rdatas.Given as goal

-- the given ones, and those of the sightings so far
abbrev pub invariant-loop-sighting : goal.invariant-loop-sighting
invariant-loop-sighting l = texts_of l.all.items ≡ l.fn.keys ++ flat_map rdatas_in (take l.sighting-index l.sightings)
