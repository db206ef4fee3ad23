use Rattle.std.proofs.Common.{◌+◌, take, refl, sym, ap, ◌∙◌, subst, arith}
use Rattle.dns_rules.specs.CacheEntries.{live}
use Rattle.dns_rules.specs.DerivationParts.{step_context_of as at_step}
use Rattle.dns_trust.specs.Judge.{judge_of}
use Rattle.dns_trail.proofs.StepLemmas.{AreSteps, steps_all, steps_fail, steps_next}
use Rattle.dns_trail.proofs.steps.steps_hold.Goals as goal

pub invariant_of-earlier : goal.invariant_of-earlier
invariant_of-earlier g c = record { ended = c.as_slice.ensures.value ∙ c.steps.invariant.known; missing = refl }

pub returns-in_default : goal.returns-in_default
returns-in_default g c =
    let j = judge_of g.V.Verifier.answers c.args.judge.now in
    let kept = live c.args.judge.now.moment c.args.cached.now in
    let own = ap (at_step j c.args.limits kept (take c.steps.number c.args.steps.now)) c.step.view_is in
    steps_fail j c.args.limits kept c.args.steps.now c.steps.number c.steps.ended.items c.index-steps-number.result _
    c.steps.invariant c.steps-test.true
    c.index-steps-number.is own (sym c.in_default.is ∙ c.in_ok-next.ensures)

pub steps-preserved : goal.steps-preserved
steps-preserved g c =
    let j = judge_of g.V.Verifier.answers c.args.judge.now in
    let kept = live c.args.judge.now.moment c.args.cached.now in
    let own = ap (at_step j c.args.limits kept (take c.steps.number c.args.steps.now)) c.step.view_is in
    subst (AreSteps j c.args.limits kept c.args.steps.now (c.steps.number + 1)) (sym c.in_ok-push.ensures.items)
    (steps_next j c.args.limits kept c.args.steps.now c.steps.number c.steps.ended.items c.index-steps-number.result _ c.in-Some.next
    c.steps.invariant c.steps-test.true c.index-steps-number.is own (sym c.in-Some.is ∙ c.in_ok-next.ensures))

pub returns : goal.returns
returns g c = steps_all _ _ _ _ c.steps.number c.steps.ended.items c.steps.invariant (omega arith)
