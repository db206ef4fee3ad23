use Rattle.std.proofs.Common.{◌≡◌, take}
use Rattle.dns_model.specs.Sections.{unsigned_part}
use Rattle.dns_outcome.specs.Joining.{bare_sets, part_sets}
use Rattle.dns_outcome.specs.SetPlaces.{ArePlaces}
use Rattle.dns_outcome.proofs.grouping.sets_in.Given as goal

abbrev pub invariant-records : goal.invariant-records
invariant-records l = record {
  sets : l.sets.items ≡ bare_sets (unsigned_part (take l.met-index l.section));
  places : ArePlaces l.places l.sets.items;
}

abbrev pub invariant-signatures : goal.invariant-signatures
invariant-signatures l = record {
  sets : l.sets.items ≡ part_sets l.section (take l.met-index l.section);
  places : ArePlaces l.places l.sets.items;
}
