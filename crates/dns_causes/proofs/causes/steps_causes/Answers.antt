use Rattle.std.proofs.Common.{◌∷◌, [], take, ap, ◌∙◌, arith}
use Rattle.std.proofs.lemmas.List.{map-append}
use Rattle.dns_rules.specs.DerivationParts.{step_context_of as at_step}
use Rattle.dns_trust.specs.Judge.{judge_of}
use Rattle.dns_causes.specs.Values.{kinds_by_step, kinds_of}
use Rattle.dns_causes.proofs.StepLemmas.{steps_all, steps_pushed}
use Rattle.dns_causes.proofs.causes.steps_causes.Goals as goal

pub steps-preserved : goal.steps-preserved
steps-preserved g c =
    let j = judge_of g.V.Verifier.answers c.args.judge.now in
    let own = ap (at_step j c.args.limits [] (take c.steps.number c.args.steps.now)) c.step.view_is in
    let pushed =
    ap kinds_by_step c.in_ok-push.ensures.items
    ∙ map-append (λ w. kinds_of w.items) c.steps.found.items (c.in_ok-next.next.causes ∷ []) in
    steps_pushed j c.args.limits c.args.steps.now c.steps.number c.steps.given.items c.as_slice.result.now _
    (kinds_by_step c.steps.found.items) _ c.index-steps-number.result _ (kinds_of c.in_ok-next.next.causes.items)
    c.in_ok-next.next.given c.steps.invariant c.steps-test.true c.index-steps-number.is own c.as_slice.ensures.value
    c.in_ok-next.ensures.causes c.in_ok-next.ensures.given c.in_ok-push-2.ensures.items pushed

pub returns : goal.returns
returns g c =
    steps_all _ _ _ c.steps.number c.steps.given.items (kinds_by_step c.steps.found.items)
    c.steps.invariant (omega arith)
