use Rattle.std.proofs.Common.{◌≡◌, subst, ap, ◌∙◌}
use Rattle.dns_model.specs.SoundAnswers.{PlacedSet}
use Rattle.dns_trust.specs.Judge.{judge_of}
use Rattle.dns_trust.specs.Verdicts.{listed}
use Rattle.dns_trust.specs.KeysMarks.{chained_with, marked_by_zone, marked_value}
use Rattle.dns_trust.proofs.ByDs.{by_zone}
use Rattle.dns_trust.proofs.key_sets.judged_beside.Goals as goal

pub returns-clause-judged : goal.returns-clause-judged
returns-clause-judged g c =
    let j = judge_of g.V.Verifier.answers c.args.judge.now in
    let mark : marked_value c.in_ok-marked.marked ≡ marked_by_zone j c.args.placed.set (listed c.args.answer.now) =
    subst (λ (p : PlacedSet). marked_value c.in_ok-marked.marked ≡ marked_by_zone j p.set (listed c.args.answer.now))
    c.placed.view_is c.in_ok-marked.ensures in
    c.with_mark.ensures ∙ ap (chained_with c.args.placed) mark ∙ by_zone j c.args.placed (listed c.args.answer.now)
