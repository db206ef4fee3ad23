use Rattle.std.proofs.Common.{take}
use Rattle.dns_aggressive.specs.Compaction.{AreMarked}
use Rattle.dns_aggressive.proofs.compacting.mark.Given as goal

abbrev pub invariant-loop-position : goal.invariant-loop-position
invariant-loop-position l = AreMarked (take l.position-index l.order) l.gone l.len l.stays.items
