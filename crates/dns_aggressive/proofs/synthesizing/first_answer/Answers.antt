use Rattle.std.proofs.Common.{None, Some, ap, ◌∙◌}
use Rattle.dns_model.specs.declared.answered.Answered.TheVariants.{No}
use Rattle.dns_rules.specs.Nsec3Verdict.{nsec3_verdict, parameters_in}
use Rattle.dns_aggressive.specs.Denials.{code_by, group, seconds_left}
use Rattle.dns_aggressive.specs.Groups.{of_way}
use Rattle.dns_aggressive.proofs.Deciding.{answer_first, answer_later, shown_by_copies}
use Rattle.dns_aggressive.proofs.LiveRecords.{live}
use Rattle.dns_aggressive.proofs.synthesizing.first_answer.Goals as goal

pub returns-in-Some : goal.returns-in-Some
returns-in-Some c =
    let kept = c.args.kept.now in
    let query = c.args.query.now in
    let now = c.args.now in
    let zone = c.args.zone.now in
    let x = c.first-item.result in
    let way = parameters_in x.now in
    let code = c.in-Some.code.0 in
    let shown = shown_by_copies kept query now zone way c.in_ok-nsec3s.nsec3s.items (Some code)
    (c.in_ok-nsec3s.ensures (live now zone kept) c.requires ∙ ap (λ w. of_way w (live now zone kept)) c.of-way.ensures)
    (c.in-Some.ensures ∙ ap (λ ns. code_by (λ k. nsec3_verdict query zone k No ns 100 500)) c.deref.ensures.value) in
    ap (λ t. Some (code, t)) (c.seconds_left-ttl.ensures
    ∙ ap (λ w. seconds_left now (group now zone kept (Some w))) c.of-way.ensures)
    ∙ answer_first kept query now zone c.args.firsts.now c.loop-first.first-index x code c.loop-first-test.true
    c.first-item.is shown
    ∙ c.loop-first.invariant

pub loop-first-preserved : goal.loop-first-preserved
loop-first-preserved c =
    let kept = c.args.kept.now in
    let query = c.args.query.now in
    let now = c.args.now in
    let zone = c.args.zone.now in
    let x = c.first-item.result in
    let way = parameters_in x.now in
    let none = shown_by_copies kept query now zone way c.in_ok-nsec3s.nsec3s.items None
    (c.in_ok-nsec3s.ensures (live now zone kept) c.requires ∙ ap (λ w. of_way w (live now zone kept)) c.of-way.ensures)
    (c.in_default.ensures ∙ ap (λ ns. code_by (λ k. nsec3_verdict query zone k No ns 100 500)) c.deref.ensures.value) in
    answer_later kept query now zone c.args.firsts.now c.loop-first.first-index x c.loop-first-test.true
    c.first-item.is none
    ∙ c.loop-first.invariant
