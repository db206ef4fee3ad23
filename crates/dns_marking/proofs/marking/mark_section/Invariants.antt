use Rattle.std.proofs.Common.{◌≡◌, ◌++◌, take, drop}
use Rattle.dns_rules.specs.ChainedSets.{bare}
use Rattle.dns_rules.specs.Marking.{marked_section}
use Rattle.dns_marking.specs.Counting.{AreCounted}
use Rattle.dns_marking.proofs.marking.mark_section.Given as goal

abbrev pub invariant-loop-next : goal.invariant-loop-next
invariant-loop-next l = record {
  records : l.records ≡ marked_section l.timed.moment (bare l.timed.sets.now) l.fn.section (take l.next-index l.initial.records)
      ++ drop l.next-index l.initial.records;
  counts : AreCounted l.places (bare l.timed.sets.now) l.counts.items (take l.next-index l.initial.records);
}
