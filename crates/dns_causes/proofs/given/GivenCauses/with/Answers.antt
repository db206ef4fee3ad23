use Rattle.std.proofs.Common.{rules, ◌≡◌, length}
use Rattle.dns_cache.specs.Kinds.{kind_value}
use Rattle.dns_causes.proofs.PlaceLemmas.{places_pushed}
use Rattle.dns_causes.proofs.given.GivenCauses.with.Goals as goal

pub invariant_of-result : goal.invariant_of-result
invariant_of-result c =
    let end : c.len-place.result ≡ length c.self.inside.all.items = search rules in
    places_pushed c.self.inside.places c.note_place.new.places c.self.inside.all.items c.push.new.self.items
    (c.args.key, kind_value c.args.cause) c.in_ok-own_key.own_key c.len-place.result c.self.invariant
    c.in_ok-own_key.ensures end c.in_ok-note_place.ensures c.in_ok-push.ensures.items
