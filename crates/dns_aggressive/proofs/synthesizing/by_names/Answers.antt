use Rattle.std.proofs.Common.{None, Some, option_map, subst, ap, ◌∙◌}
use Rattle.dns_aggressive.specs.Denials.{group, seconds_left}
use Rattle.dns_aggressive.specs.KeptLists.{AreNsecsOf}
use Rattle.dns_aggressive.proofs.ZoneRuns.{named_code}
use Rattle.dns_aggressive.proofs.synthesizing.by_names.Goals as goal

pub returns-in-Some : goal.returns-in-Some
returns-in-Some c =
    let kept = c.args.kept.now in
    let query = c.args.query.now in
    let now = c.args.now in
    let zone = c.args.zone.now in
    let h : AreNsecsOf c.args.kept.now c.args.zone.now c.args.now c.nsecs-nsecs.result =
    subst (λ z. AreNsecsOf c.args.kept.now z c.args.now c.nsecs-nsecs.result) c.borrowed.ensures c.nsecs-nsecs.ensures in
    ap (λ t. Some (c.in-Some.code.0, t)) c.seconds_left.ensures
    ∙ ap (option_map (λ k. (k, seconds_left now (group now zone kept None))))
    (c.in-Some.ensures ∙ named_code kept zone h.run now h.is query c.nsecs-nsecs.result h.are)

pub returns-in-None : goal.returns-in-None
returns-in-None c =
    let kept = c.args.kept.now in
    let query = c.args.query.now in
    let now = c.args.now in
    let zone = c.args.zone.now in
    let h : AreNsecsOf c.args.kept.now c.args.zone.now c.args.now c.nsecs-nsecs.result =
    subst (λ z. AreNsecsOf c.args.kept.now z c.args.now c.nsecs-nsecs.result) c.borrowed.ensures c.nsecs-nsecs.ensures in
    ap (option_map (λ k. (k, seconds_left now (group now zone kept None))))
    (c.in-None.ensures ∙ named_code kept zone h.run now h.is query c.nsecs-nsecs.result h.are)
