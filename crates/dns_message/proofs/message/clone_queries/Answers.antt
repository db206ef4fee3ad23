use Rattle.std.proofs.Common.{◌∙◌}
use Rattle.dns_record.proofs.Copies.{copied, copied_all}
use Rattle.dns_message.proofs.message.clone_queries.Goals as goal

pub loop-query-preserved : goal.loop-query-preserved
loop-query-preserved c =
    copied _ _ _ _ _ c.query-item.result _ c.deref-query-items.ensures.value c.loop-query-test.true c.query-item.is c.loop-query.invariant
    c.in_ok-try_clone.ensures c.in_ok-push.ensures.items

pub returns : goal.returns
returns c = c.loop-query.invariant ∙ copied_all _ _ _ c.deref-query-items.ensures.value c.loop-query-test.false
