use Rattle.std.proofs.Common.{◌≡◌, rules, refl, ap, ◌∙◌, ◌∷◌, [], ◌++◌}
use Rattle.dns_evidence.specs.Finding.{items_or_none}
use Rattle.dns_trail.specs.Places.{places_under}
use Rattle.dns_trail.proofs.PlaceLemmas.{added}
use Rattle.dns_trail.proofs.places.add_place.Goals as goal

pub returns-in-Some : goal.returns-in-Some
returns-in-Some g c =
    added g.met.K.Ord.total c.args.places.now (c.get_mut.follows.lender c.push.new.self) c.args.key c.args.place c.push.new.self
    (c.in_ok-push.ensures.items ∙ ap (λ o. items_or_none o ++ c.args.place ∷ []) c.in-Some.ensures.value)
    ((c.get_mut.follows.holds c.push.new.self).3 (search rules))

pub returns : goal.returns
returns g c =
    let empty : [] ≡ places_under g.K.Ord.cmp c.args.places.now c.args.key = ap items_or_none c.in_default.ensures.value in
    let updates = rw c.get_mut.follows.holds-at-none at c.in_ok-insert.ensures.updates in
    let items : c.push-2.new.self.items ≡ c.new-first.result.items ++ c.args.place ∷ [] =
    c.in_ok-push-2.ensures.items in
    let one : c.push-2.new.self.items ≡ places_under g.K.Ord.cmp c.args.places.now c.args.key ++ c.args.place ∷ [] =
    rw (items, c.new-first.ensures.items, ← empty) refl in
    added g.met.K.Ord.total c.args.places.now c.insert.new.self c.args.key c.args.place c.push-2.new.self one updates
