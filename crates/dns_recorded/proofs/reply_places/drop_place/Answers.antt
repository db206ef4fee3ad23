use Rattle.std.proofs.Common.{rules, sym, ap, ◌∙◌, drop}
use Rattle.dns_recorded.specs.RecordedPlaces.{queue_items}
use Rattle.dns_recorded.proofs.PlaceLemmas.{dropped, dropped_none}
use Rattle.dns_recorded.proofs.reply_places.drop_place.Goals as goal

pub returns-in-Some : goal.returns-in-Some
returns-in-Some c =
    dropped c.args.places.now (c.get_mut.follows.lender c.pop_front.new.self) c.args.key.now c.pop_front.new.self
    (c.pop_front.ensures.rest ∙ ap (λ o. drop 1 (queue_items o)) c.in-Some.ensures.value)
    ((c.get_mut.follows.holds c.pop_front.new.self).3 (search rules))

pub returns-in_default : goal.returns-in_default
returns-in_default c =
    rw c.get_mut.follows.holds-at-none (dropped_none c.args.places.now c.args.key.now (sym c.in_default.ensures.value))
