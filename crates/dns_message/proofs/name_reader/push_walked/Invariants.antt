use Rattle.std.proofs.Common.{◌≤◌, length}
use Rattle.std.specs.Prelude.{IfSome}
use Rattle.std.specs.List.{All}
use Rattle.dns_message.proofs.NameReading.{Row}
use Rattle.dns_message.proofs.NameKeeping.{IsOnWay}
use Rattle.dns_message.proofs.name_reader.push_walked.Given as goal
use Rattle.dns_message.specs.Readable.{steps_left}

abbrev pub invariant-steps : goal.invariant-steps
invariant-steps l = record {
  row : Row l.bytes l.at l.start l.pos l.ending l.fn.into.items l.into.items l.size;
  room : l.size ≤ 254;
  begun : l.start ≤ l.pos;
  start_fits : l.start ≤ length l.bytes;
  pos_fits : l.pos ≤ length l.bytes;
  ending_fits : IfSome l.ending (λ e. e ≤ length l.bytes);
  passed : All (IsOnWay l.bytes l.at) l.passed.items;
}

abbrev pub decreases-steps : goal.decreases-steps
decreases-steps l = steps_left l.start l.size
