use Rattle.std.proofs.Common.{◌≡◌, ap, ◌∙◌}
use Rattle.dns_outcome.specs.SetPlaces.{place_of, with_judged}
use Rattle.dns_outcome.proofs.MarkSteps.{none_placed, placed_more}
use Rattle.dns_outcome.proofs.set_places.judged_places.Goals as goal

pub loop-place-init : goal.loop-place-init
loop-place-init c = none_placed c.new-places.result c.args.section c.new-places.ensures

pub loop-place-preserved : goal.loop-place-preserved
loop-place-preserved c =
    let x = c.index-sets-place.result in
    let judged : c.set.inside.judged ≡ x.judged = ap (λ s. s.judged) c.set.view_is in
    placed_more c.loop-place.places c.add_judged.new.places c.args.section c.args.sets.now c.loop-place.place x
    c.loop-place-test.true c.index-sets-place.is c.loop-place.invariant
    (λ o k. c.in_ok-add_judged.ensures o k
    ∙ ap (λ j. with_judged (place_of c.loop-place.places) c.args.section j c.loop-place.place o k) judged)
