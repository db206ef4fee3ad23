use Rattle.std.proofs.Common.{get_or, false, arith}
use Rattle.dns_aggressive.proofs.Compaction.{counted_more, counted_none, most_more, set_more, set_none}
use Rattle.dns_aggressive.proofs.compacting.count.Goals as goal

pub loop-flag-init : goal.loop-flag-init
loop-flag-init c = record {
  counted = counted_none c.args.stays.now c.args.moved.now.items c.requires.empty;
  set_ = set_none c.args.stays.now;
  most = omega arith;
  room = c.requires.room;
}

pub loop-flag-preserved : goal.loop-flag-preserved
loop-flag-preserved c = record {
  counted = counted_more c.args.stays.now c.loop-flag.flag-index c.loop-flag.set c.loop-flag.moved.items
      c.push_reserved.new.self.items c.loop-flag.invariant.counted c.loop-flag.invariant.set_
      c.push_reserved.ensures.items;
  set_ = set_more c.args.stays.now c.loop-flag.flag-index c.loop-flag.set c.one_more_if-set.result
      c.loop-flag-test.true c.loop-flag.invariant.set_ c.one_more_if-set.ensures;
  most = most_more (get_or c.args.stays.now c.loop-flag.flag-index false) c.loop-flag.set c.one_more_if-set.result
      c.loop-flag.flag-index c.one_more_if-set.ensures c.loop-flag.invariant.most;
  room = omega (arith, c.push_reserved.ensures.capacity, c.loop-flag.invariant.room);
}
