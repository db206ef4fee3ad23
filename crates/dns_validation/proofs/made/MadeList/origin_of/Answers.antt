use Rattle.std.proofs.Common.{◌≡◌, Some, IfSome, rules, subst}
use Rattle.dns_validation.specs.MadePlaces.{ArePlaces}
use Rattle.dns_validation.proofs.MadePlaceLemmas.{origin_found}
use Rattle.dns_validation.proofs.made.MadeList.origin_of.Goals as goal

pub returns-in-Some : goal.returns-in-Some
returns-in-Some c =
    let all = c.self.inside.all.items in
    let is : c.self.inside.places ≡ Some c.in-Some.places = search rules in
    let are : ArePlaces c.in-Some.places all = subst (λ o. IfSome o (λ p. ArePlaces p all)) is c.self.invariant in
    rw (c.found_origin.ensures, c.deref.ensures.value, ← c.self.view_is)
    (origin_found c.in-Some.places all c.args.entry.now are)
