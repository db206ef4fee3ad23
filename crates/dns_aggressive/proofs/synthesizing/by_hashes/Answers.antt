use Rattle.std.proofs.Common.{List, map, subst, ap, ◌∙◌}
use Rattle.std.proofs.lemmas.Result.{IfOk-weaker}
use Rattle.dns_model.specs.Owned.{OwnedNsec3}
use Rattle.dns_rules.specs.Nsec3Verdict.{parameters_in}
use Rattle.dns_aggressive.specs.Answers.{hashed_answer}
use Rattle.dns_aggressive.specs.Denials.{at_most}
use Rattle.dns_aggressive.specs.Groups.{IsGrouped, lent}
use Rattle.dns_aggressive.specs.ZoneRuns.{IsZoneRun}
use Rattle.dns_aggressive.proofs.LiveRecords.{ways_of_firsts}
use Rattle.dns_aggressive.proofs.synthesizing.by_hashes.Goals as goal

pub first_answer-requires : goal.first_answer-requires
first_answer-requires c =
    let is : IsZoneRun c.args.kept.now c.args.zone.now c.of_zone-run.result =
    subst (λ z. IsZoneRun c.args.kept.now z c.of_zone-run.result) c.borrowed.ensures c.of_zone-run.ensures in
    subst (λ (l : List OwnedNsec3). IsGrouped l c.in_ok-groups.groups)
    (ap lent c.deref.ensures.value ∙ c.in_ok-nsec3s.ensures c.args.kept.now c.args.zone.now is) c.in_ok-groups.ensures

pub returns : goal.returns
returns c =
    let is : IsZoneRun c.args.kept.now c.args.zone.now c.of_zone-run.result =
    subst (λ z. IsZoneRun c.args.kept.now z c.of_zone-run.result) c.borrowed.ensures c.of_zone-run.ensures in
    let firsts = c.in_ok-groups.groups.firsts.items in
    IfOk-weaker c.first_answer.result _ _
    (λ found is_. is_ ∙ ap (hashed_answer c.args.kept.now c.args.query.now c.args.now c.args.zone.now)
    (ap (λ ns. map parameters_in (lent ns)) (c.tried-firsts.ensures ∙ ap (at_most c.args.most) c.deref-2.ensures.value)
    ∙ ways_of_firsts c.args.most firsts
    (lent c.deref.result.now) c.args.now c.args.zone.now c.args.kept.now c.in_ok-groups.ensures.heads
    (ap lent c.deref.ensures.value ∙ c.in_ok-nsec3s.ensures c.args.kept.now c.args.zone.now is)))
    c.first_answer.ensures
