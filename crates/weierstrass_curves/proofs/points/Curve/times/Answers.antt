use Rattle.std.proofs.Common.{sym, ◌∙◌}
use Rattle.std.proofs.lemmas.Bool.{eqb-true}
use Rattle.big_numbers.specs.Limbs.{value}
use Rattle.weierstrass_curves.proofs.Products.{product_one}
use Rattle.weierstrass_curves.proofs.points.Curve.times.Goals as goal

pub returns-then-is_equal-clause-value : goal.returns-then-is_equal-clause-value
returns-then-is_equal-clause-value g c =
    let e = eqb-true (value c.args.b.now) (value c.small.result) (sym c.is_equal.ensures ∙ c.if-is_equal.true) in
    sym (product_one c.args.self.now.m (value c.args.a.now) (value c.args.b.now) (e ∙ c.small.ensures) c.requires.below)
