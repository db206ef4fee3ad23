use Rattle.std.proofs.Common.{◌∙◌}
use Rattle.dns_record.proofs.Copies.{copied, copied_all}
use Rattle.dns_evidence.proofs.trail_copies.clone_steps.Goals as goal

pub loop-step-preserved : goal.loop-step-preserved
loop-step-preserved c =
    copied _ _ _ _ _ c.step-item.result _ c.deref-step-items.ensures.value c.loop-step-test.true c.step-item.is c.loop-step.invariant
    c.in_ok-try_clone.ensures c.in_ok-push.ensures.items

pub returns : goal.returns
returns c = c.loop-step.invariant ∙ copied_all _ _ _ c.deref-step-items.ensures.value c.loop-step-test.false
