use Rattle.std.proofs.Common.{◌∙◌}
use Rattle.dns_record.proofs.Copies.{copied, copied_all}
use Rattle.dns_handle.proofs.response.clone_chains.Goals as goal

pub loop-chain-preserved : goal.loop-chain-preserved
loop-chain-preserved c =
    copied _ _ _ _ _ c.chain-item.result _ c.deref-chain-items.ensures.value c.loop-chain-test.true c.chain-item.is
    c.loop-chain.invariant c.in_ok-next.ensures c.in_ok-push.ensures.items

pub returns : goal.returns
returns c = c.loop-chain.invariant ∙ copied_all _ _ _ c.deref-chain-items.ensures.value c.loop-chain-test.false
