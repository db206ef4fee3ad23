use Rattle.std.proofs.Common.{Some, subst, ap, ◌∙◌}
use Rattle.dns_model.specs.SoundAnswers.{PlacedSet}
use Rattle.dns_trust.specs.Judge.{judge_of}
use Rattle.dns_trust.specs.KeysMarks.{IsAnchorsMark, chained_with}
use Rattle.dns_trust.proofs.ByDs.{by_anchors}
use Rattle.dns_trust.proofs.key_sets.keys_step_of.Goals as goal

pub returns-in-Some : goal.returns-in-Some
returns-in-Some g c =
    let j = judge_of g.V.Verifier.answers c.args.judge.now in
    let mark : IsAnchorsMark j c.args.placed.set (Some c.in-Some.marked) =
    subst (λ (p : PlacedSet). IsAnchorsMark j p.set (Some c.in-Some.marked)) c.placed.view_is
    (subst (IsAnchorsMark j c.placed.inside.set) c.in-Some.is c.in_ok-marked.ensures) in
    (mark.0, c.with_mark.ensures ∙ ap (chained_with c.args.placed) mark.1 ∙ by_anchors j c.args.placed)
