use Rattle.std.proofs.lemmas.List.Filters.{FiltersInPlace}
use Rattle.dns_aggressive.specs.Compaction.{flag_at}
use Rattle.dns_aggressive.proofs.compacting.staying_first.Given as goal

abbrev pub invariant-loop-number : goal.invariant-loop-number
invariant-loop-number l = FiltersInPlace (flag_at l.stays) l.initial.order l.order l.left l.number
