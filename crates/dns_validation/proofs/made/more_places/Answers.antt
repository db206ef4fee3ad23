use Rattle.std.proofs.Common.{◌≡◌, Some, IfSome, refl, rules, subst}
use Rattle.dns_validation.specs.MadePlaces.{ArePlaces}
use Rattle.dns_validation.proofs.MadePlaceLemmas.{places_more}
use Rattle.dns_validation.proofs.made.more_places.Goals as goal

pub returns-in_ok-more-in-Some : goal.returns-in_ok-more-in-Some
returns-in_ok-more-in-Some c = λ all count are.
    let is : c.args.places ≡ Some c.in-Some.places = search rules in
    let old : ArePlaces c.in-Some.places all = subst (λ o. IfSome o (λ p. ArePlaces p all)) is are in
    places_more c.in-Some.places c.in_ok-more-in-Some.more all c.args.made.now c.args.made.now.key c.args.place old refl count
    c.in_ok-more-in-Some.ensures
