use Rattle.std.proofs.Common.{◌∙◌}
use Rattle.dns_record.proofs.Copies.{copied, copied_all}
use Rattle.dns_record.proofs.record.clone_records.Goals as goal

pub loop-record-preserved : goal.loop-record-preserved
loop-record-preserved c =
    copied _ _ _ _ _ c.record-item.result _ c.deref-record-items.ensures.value c.loop-record-test.true c.record-item.is
    c.loop-record.invariant
    c.in_ok-next.ensures c.in_ok-push.ensures.items

pub returns : goal.returns
returns c = c.loop-record.invariant ∙ copied_all _ _ _ c.deref-record-items.ensures.value c.loop-record-test.false
