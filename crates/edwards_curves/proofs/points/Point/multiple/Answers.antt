use Rattle.std.proofs.Common.{◌-◌, arith}
use Rattle.big_numbers.specs.Limbs.{value}
use Rattle.edwards_curves.proofs.Ladders.{multiple_none, multiple_more, multiple_all}
use Rattle.edwards_curves.proofs.points.Point.multiple.Goals as goal

pub loop-done-init : goal.loop-done-init
loop-done-init c = multiple_none c.args.self.now (value c.args.number.now) c.neutral-so_far.result
    c.neutral-so_far.ensures

pub loop-done-preserved : goal.loop-done-preserved
loop-done-preserved c =
    multiple_more c.args.self.now c.prepared-summand.result (value c.args.number.now) c.loop-done.done
    (252 - c.loop-done.done)
    c.loop-done.so_far _ c.digit.result c.prepared-summand.ensures (omega arith) c.loop-done.invariant c.digit.ensures
    c.step-so_far.ensures.more c.step-so_far.ensures.double

pub returns : goal.returns
returns c =
    multiple_all c.args.self.now (value c.args.number.now) c.loop-done.done c.loop-done.so_far
    (omega arith) c.loop-done.invariant
