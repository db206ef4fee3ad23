use Rattle.std.proofs.Common.{subst, refl, arith}
use Rattle.std.proofs.lemmas.List.{take_all}
use Rattle.dns_validation.specs.MadePlaces.{ArePlaces}
use Rattle.dns_validation.proofs.MadePlaceLemmas.{no_places, places_next}
use Rattle.dns_validation.proofs.made.places_of.Goals as goal

pub each-init : goal.each-init
each-init c = no_places c.new-places.result _ c.new-places.ensures.empty refl

pub each-preserved : goal.each-preserved
each-preserved c =
    let made = c.index-all-place.result in
    places_next c.each.places c.in_ok-places.places c.args.all.now made made.key c.each.place
    c.each.invariant c.each-test.true c.index-all-place.is refl c.in_ok-places.ensures

pub returns : goal.returns
returns c =
    subst (ArePlaces c.each.places) (take_all c.each.place c.args.all.now (omega arith)) c.each.invariant
