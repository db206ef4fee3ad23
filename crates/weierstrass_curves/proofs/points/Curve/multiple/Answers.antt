use Rattle.std.proofs.Common.{◌≡◌, ◌-◌, ap, arith}
use Rattle.big_numbers.specs.Limbs.{value}
use Rattle.weierstrass_curves.specs.Points.{CurveValue}
use Rattle.weierstrass_curves.proofs.Multiples.{multiple_none, multiple_more, multiple_all}
use Rattle.weierstrass_curves.proofs.points.Curve.multiple.Goals as goal

pub loop-done-init : goal.loop-done-init
loop-done-init g c =
    let two = c.known.ensures.curve.m in
    let x = c.small.ensures in
    let y = c.small-2.ensures in
    let z = c.small-3.ensures in
    record {
      so_far = multiple_none c.args.self.now.m c.args.self.now.b c.args.p.now (value c.args.k.now) c.args.self.now.digits
          (value c.small.result) (value c.small-2.result) (value c.small-3.result) x y z;
      below = record { x = omega arith; y = omega arith; z = omega arith };
    }

pub loop-done-preserved : goal.loop-done-preserved
loop-done-preserved g c =
    let v : c.self.inside.digits ≡ c.args.self.now.digits = ap (λ (x : CurveValue). x.digits) c.self.view_is in
    record {
      so_far = multiple_more c.args.self.now.m c.args.self.now.b c.args.p.now (value c.args.k.now) c.args.self.now.digits
          c.loop-done.done (c.self.inside.digits - 1 - c.loop-done.done) c.loop-done.q _ c.digit.result (omega (arith, v))
          c.loop-done.invariant.so_far c.digit.ensures c.step-q.ensures.more c.step-q.ensures.double;
      below = c.step-q.ensures.below;
    }

pub returns-clause-multiple : goal.returns-clause-multiple
returns-clause-multiple g c =
    let v : c.self.inside.digits ≡ c.args.self.now.digits = ap (λ (x : CurveValue). x.digits) c.self.view_is in
    multiple_all c.args.self.now.m c.args.self.now.b c.args.p.now (value c.args.k.now) c.args.self.now.digits c.loop-done.done
    c.loop-done.q (omega (arith, v)) c.loop-done.invariant.so_far
