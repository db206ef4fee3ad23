use Rattle.std.proofs.Common.{arith}
use Rattle.dns_io.proofs.Steps.{writes_more}
use Rattle.dns_io.proofs.sink.write_all.Goals as goal

pub loop-at-preserved : goal.loop-at-preserved
loop-at-preserved g c = record {
  bound = grind arith;
  later = omega (arith, c.write.ensures.later);
  taken = writes_more _ _ _ _ _ _ c.loop-at.invariant.taken c.in_ok-count.ensures.bytes;
}
