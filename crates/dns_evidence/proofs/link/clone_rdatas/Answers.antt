use Rattle.std.proofs.Common.{◌∙◌}
use Rattle.dns_record.proofs.Copies.{copied, copied_all}
use Rattle.dns_evidence.proofs.link.clone_rdatas.Goals as goal

pub loop-rdata-preserved : goal.loop-rdata-preserved
loop-rdata-preserved c =
    copied _ _ _ _ _ c.rdata-item.result _ c.deref-rdata-items.ensures.value c.loop-rdata-test.true c.rdata-item.is c.loop-rdata.invariant
    c.in_ok-try_clone.ensures c.in_ok-push.ensures.items

pub returns : goal.returns
returns c = c.loop-rdata.invariant ∙ copied_all _ _ _ c.deref-rdata-items.ensures.value c.loop-rdata-test.false
