use Rattle.std.proofs.Common.{◌≡◌, map}
use Rattle.dns_model.specs.declared.section.Section.TheVariants.{Authority}
use Rattle.dns_rules.specs.ChainedSets.{bare}
use Rattle.dns_marks.specs.ZoneVerdicts.{marked_set}
use Rattle.dns_marks.proofs.hashed.secure_sets.Given as goal

abbrev pub invariant-loop-set : goal.invariant-loop-set
invariant-loop-set l = bare l.sets.items ≡ map (marked_set Authority) l.yielded
