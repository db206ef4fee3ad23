use Rattle.std.proofs.Common.{◌≡◌, ◌≤◌, length, take}
use Rattle.std.specs.Vec.{vec_capacity}
use Rattle.dns_aggressive.specs.Compaction.{AreCounted, count_set}
use Rattle.dns_aggressive.proofs.compacting.count.Given as goal

abbrev pub invariant-loop-flag : goal.invariant-loop-flag
invariant-loop-flag l = record {
  counted : AreCounted l.stays l.flag-index l.moved.items;
  set_ : l.set ≡ count_set (take l.flag-index l.stays);
  most : l.set ≤ l.flag-index;
  room : length l.stays ≤ vec_capacity l.moved;
}
