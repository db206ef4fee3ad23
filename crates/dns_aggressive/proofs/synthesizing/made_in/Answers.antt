use Rattle.std.proofs.Common.{rules, ◌≡◌, None, Some, false, map, subst, ap, ◌∙◌}
use Rattle.std.specs.List.{list_any}
use Rattle.dns_aggressive.specs.Answers.{hashed_answer, named_answer}
use Rattle.dns_aggressive.specs.Denials.{at_most, hashed_ways}
use Rattle.dns_aggressive.specs.ZoneRuns.{IsZoneRun, stands_hashed}
use Rattle.dns_aggressive.proofs.Deciding.{made_first, made_later}
use Rattle.dns_aggressive.proofs.ZoneRuns.{named_none, named_seconds, named_shown, no_hashed_answer}
use Rattle.dns_aggressive.proofs.synthesizing.made_in.Goals as goal

pub returns-in-Some : goal.returns-in-Some
returns-in-Some c =
    let kept = c.args.kept.now in
    let query = c.args.query.now in
    let now = c.args.now in
    let zone = c.args.zone in
    let told : Some (c.in-Some.code.0, c.in-Some.ttl)
    ≡ named_answer c.args.kept.now c.args.query.now c.args.now c.args.zone = search rules in
    ap (λ t. Some (record { code = c.in-Some.code.0; zone = zone; ttl = t }))
    (named_seconds kept query now zone c.in-Some.code.0 c.in-Some.ttl told)
    ∙ made_first kept query now zone (map Some (at_most c.args.most (hashed_ways now zone kept))) c.in-Some.code.0
    (named_shown kept query now zone c.in-Some.code.0 c.in-Some.ttl told)

pub returns-then-not-has_nsec3 : goal.returns-then-not-has_nsec3
returns-then-not-has_nsec3 c =
    let kept = c.args.kept.now in
    let query = c.args.query.now in
    let now = c.args.now in
    let zone = c.args.zone in
    let run = c.of_zone.result in
    let is : IsZoneRun c.args.kept.now c.args.zone c.of_zone.result =
    subst (λ z. IsZoneRun c.args.kept.now z c.of_zone.result) c.borrowed.ensures c.of_zone.ensures in
    let named : None ≡ named_answer c.args.kept.now c.args.query.now c.args.now c.args.zone = search rules in
    let no : c.has_nsec3.result ≡ false = search rules in
    let none : list_any (stands_hashed c.of_zone.result c.args.now) c.of_zone.result.positions.now
    ≡ false = c.has_nsec3.ensures c.args.kept.now c.args.zone c.args.now is no in
    made_later kept query now zone (at_most c.args.most (hashed_ways now zone kept)) None
    (named_none kept query now zone named) (no_hashed_answer kept zone run now is query c.args.most none)

pub returns-in-Some-2 : goal.returns-in-Some-2
returns-in-Some-2 c =
    let kept = c.args.kept.now in
    let query = c.args.query.now in
    let now = c.args.now in
    let zone = c.args.zone in
    let named : None ≡ named_answer c.args.kept.now c.args.query.now c.args.now c.args.zone = search rules in
    let told : Some (c.in-Some-2.code.0, c.in-Some-2.ttl)
    ≡ hashed_answer c.args.kept.now c.args.query.now c.args.now c.args.zone
    (at_most c.args.most (hashed_ways c.args.now c.args.zone c.args.kept.now)) = search rules in
    made_later kept query now zone (at_most c.args.most (hashed_ways now zone kept))
    (Some (c.in-Some-2.code.0, c.in-Some-2.ttl)) (named_none kept query now zone named)
    told

pub returns-in-None : goal.returns-in-None
returns-in-None c =
    let kept = c.args.kept.now in
    let query = c.args.query.now in
    let now = c.args.now in
    let zone = c.args.zone in
    let named : None ≡ named_answer c.args.kept.now c.args.query.now c.args.now c.args.zone = search rules in
    let told : None
    ≡ hashed_answer c.args.kept.now c.args.query.now c.args.now c.args.zone
    (at_most c.args.most (hashed_ways c.args.now c.args.zone c.args.kept.now)) = search rules in
    made_later kept query now zone (at_most c.args.most (hashed_ways now zone kept)) None
    (named_none kept query now zone named)
    told
