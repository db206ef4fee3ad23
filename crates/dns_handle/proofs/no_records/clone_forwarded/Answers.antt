use Rattle.std.proofs.Common.{◌∙◌}
use Rattle.dns_record.proofs.Copies.{copied, copied_all}
use Rattle.dns_handle.proofs.no_records.clone_forwarded.Goals as goal

pub loop-forwarded-preserved : goal.loop-forwarded-preserved
loop-forwarded-preserved c =
    copied _ _ _ _ _ c.forwarded-item.result _ c.deref-forwarded-items.ensures.value c.loop-forwarded-test.true c.forwarded-item.is
    c.loop-forwarded.invariant c.in_ok-next.ensures c.in_ok-push.ensures.items

pub returns : goal.returns
returns c = c.loop-forwarded.invariant ∙ copied_all _ _ _ c.deref-forwarded-items.ensures.value c.loop-forwarded-test.false
