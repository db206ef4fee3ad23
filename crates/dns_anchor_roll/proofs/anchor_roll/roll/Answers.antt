use Rattle.std.proofs.Common.{◌≡◌, ◌∙◌, refl, sym, ap, subst, reverse, take}
use Rattle.std.proofs.lemmas.Result.{err_from_is_err_and}
use Rattle.dns_anchor_roll.specs.After.{IsAfter, starting}
use Rattle.dns_anchor_roll.proofs.Rolls.{falls_here, falls_later, falls_never, newest_first}
use Rattle.dns_anchor_roll.proofs.anchor_roll.roll.Goals as goal

pub loop-sighting-preserved : goal.loop-sighting-preserved
loop-sighting-preserved g c =
    let start = starting (g.V.Verifier.answers c.args.verifier) c.args.zone c.args.keys.items in
    let list = reverse (take c.loop-sighting.sighting-index c.args.sightings.now) in
    record {
      after = subst (λ l. IsAfter g.V.Verifier.answers start l c.see.new.self)
          (sym (newest_first c.args.sightings.now c.loop-sighting.sighting-index c.sighting-item.result c.loop-sighting-test.true c.sighting-item.is))
          (c.in_ok-see.ensures.after start list c.loop-sighting.invariant.after);
      later = falls_later c.args.sightings.now c.loop-sighting.sighting-index c.sighting-item.result c.loop-sighting-test.true c.sighting-item.is
          c.loop-sighting.invariant.later (c.in_ok-see.ensures.rises start list c.loop-sighting.invariant.after);
    }

pub returns-in_err-see-clause-err : goal.returns-in_err-see-clause-err
returns-in_err-see-clause-err g c =
    let start = starting (g.V.Verifier.answers c.args.verifier) c.args.zone c.args.keys.items in
    let list = reverse (take c.loop-sighting.sighting-index c.args.sightings.now) in
    let p = err_from_is_err_and c.from_residual-in_err-see.result c.from_residual-in_err-see.ensures.1 in
    rw (p.1, p.2)
    (falls_here c.args.sightings.now list c.loop-sighting.sighting-index c.sighting-item.result c.in_err-see.field-0.0 refl
    c.loop-sighting-test.true c.sighting-item.is c.loop-sighting.invariant.later
    (c.in_err-see.ensures.earlier start list c.loop-sighting.invariant.after))

pub returns-clause-rises : goal.returns-clause-rises
returns-clause-rises g c =
    falls_never c.args.sightings.now c.loop-sighting.sighting-index c.loop-sighting-test.false c.loop-sighting.invariant.later
