use Rattle.std.proofs.Common.{◌≡◌, take}
use Rattle.std.specs.List.{filter}
use Rattle.dns_anchor_roll.specs.Sightings.{is_key_signature}
use Rattle.dns_anchor_roll.proofs.sighting.key_signatures.Given as goal

-- those so far
abbrev pub invariant-loop-next : goal.invariant-loop-next
invariant-loop-next l = l.all.items ≡ filter (is_key_signature l.zone) (take l.next-index l.section)
