use Rattle.std.proofs.Common.{◌∙◌}
use Rattle.dns_record.proofs.Copies.{copied, copied_all}
use Rattle.dns_evidence.proofs.trail_copies.clone_sets.Goals as goal

pub loop-set-preserved : goal.loop-set-preserved
loop-set-preserved c =
    copied _ _ _ _ _ c.set-item.result _ c.deref-set-items.ensures.value c.loop-set-test.true c.set-item.is c.loop-set.invariant
    c.in_ok-try_clone.ensures c.in_ok-push.ensures.items

pub returns : goal.returns
returns c = c.loop-set.invariant ∙ copied_all _ _ _ c.deref-set-items.ensures.value c.loop-set-test.false
