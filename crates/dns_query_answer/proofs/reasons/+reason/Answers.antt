use Rattle.std.proofs.Common.{rules, ◌≡◌, ◌∷◌}
use Rattle.dns_query_answer.specs.PlaceValues.{explained_by, place_of}
use Rattle.dns_query_answer.proofs.PushLemmas.{pushed_reason}
use Rattle.dns_query_answer.proofs.reasons.+reason.Goals as goal

pub push_reason-returns-in-Some : goal.push_reason-returns-in-Some
push_reason-returns-in-Some t c =
    let cut : c.args.steps.now ≡ c.in-Some.field-0-0.now ∷ c.in-Some.left.now = search rules in
    pushed_reason c.push_ground.result c.args.into.now.items c.push_cause.new.into.items c.push_ground.new.into.items
    c.args.steps.now c.in-Some.left.now c.in-Some.field-0-0.now (explained_by c.args.context.now)
    (place_of c.args.place.now) (place_of c.origin_place.result) cut c.origin_place.ensures c.in_ok-push_cause.ensures
    c.push_ground.ensures
