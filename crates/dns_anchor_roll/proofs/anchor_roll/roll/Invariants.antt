use Rattle.std.proofs.Common.{◌≡◌, drop, take, reverse}
use Rattle.dns_anchor_roll.specs.After.{IsAfter, fall_from, first_fall, last_moment, starting}
use Rattle.dns_anchor_roll.proofs.anchor_roll.roll.Given as goal

-- the sightings so far are taken, and no moment falls among them
abbrev pub invariant-loop-sighting : goal.invariant-loop-sighting
invariant-loop-sighting g l = record {
  after : IsAfter g.V.Verifier.answers (starting (g.V.Verifier.answers l.fn.verifier) l.fn.zone l.fn.keys.items)
      (reverse (take l.sighting-index l.sightings)) l.roll;
  later : first_fall l.sightings ≡ fall_from (last_moment (reverse (take l.sighting-index l.sightings))) (drop l.sighting-index l.sightings);
}
