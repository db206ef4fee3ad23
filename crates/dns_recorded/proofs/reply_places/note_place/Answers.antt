use Rattle.std.proofs.Common.{◌≡◌, rules, refl, ap, ◌∙◌, ◌∷◌, [], ◌++◌}
use Rattle.dns_recorded.specs.RecordedPlaces.{queue_items, query_places}
use Rattle.dns_recorded.proofs.PlaceLemmas.{noted, unchanged, after_error}
use Rattle.dns_recorded.proofs.reply_places.note_place.Goals as goal

pub returns-in_err-push_back-clause-err : goal.returns-in_err-push_back-clause-err
returns-in_err-push_back-clause-err c =
    after_error c.from_residual.result (
    unchanged c.args.places.now (c.get_mut.follows.lender c.push_back.new.self) c.args.key c.push_back.new.self
    (c.in_err-push_back.ensures.items ∙ ap queue_items c.in-Some.ensures.value)
    ((c.get_mut.follows.holds c.push_back.new.self).3 (search rules))
    )

pub returns-in-Some-clause-ok : goal.returns-in-Some-clause-ok
returns-in-Some-clause-ok c =
    noted c.args.places.now (c.get_mut.follows.lender c.push_back.new.self) c.args.key c.args.place c.push_back.new.self
    (c.in_ok-push_back.ensures.items ∙ ap (λ o. queue_items o ++ c.args.place ∷ []) c.in-Some.ensures.value)
    ((c.get_mut.follows.holds c.push_back.new.self).3 (search rules))

pub returns-clause-ok : goal.returns-clause-ok
returns-clause-ok c =
    let empty : [] ≡ query_places c.args.places.now c.args.key = ap queue_items c.in_default.ensures.value in
    let updates = rw c.get_mut.follows.holds-at-none at c.in_ok-insert.ensures.updates in
    let items : c.push_back-2.new.self.items ≡ c.new-queue.result.items ++ c.args.place ∷ [] = c.in_ok-push_back-2.ensures.items in
    let one : c.push_back-2.new.self.items ≡ query_places c.args.places.now c.args.key ++ c.args.place ∷ [] =
    rw (items, c.new-queue.ensures.items, ← empty) refl in
    noted c.args.places.now c.insert.new.self c.args.key c.args.place c.push_back-2.new.self one updates
