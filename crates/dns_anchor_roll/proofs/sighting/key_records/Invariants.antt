use Rattle.std.proofs.Common.{◌≡◌, take}
use Rattle.std.specs.List.{filter}
use Rattle.dns_anchor_roll.specs.Sightings.{is_key_record}
use Rattle.dns_anchor_roll.proofs.sighting.key_records.Given as goal

-- those so far
abbrev pub invariant-loop-next : goal.invariant-loop-next
invariant-loop-next l = l.all.items ≡ filter (is_key_record l.zone) (take l.next-index l.section)
