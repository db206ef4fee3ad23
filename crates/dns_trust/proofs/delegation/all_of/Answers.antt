use Rattle.dns_trust.proofs.Shown.{shown_more}
use Rattle.dns_trust.proofs.delegation.all_of.Goals as goal

pub loop-ds-preserved : goal.loop-ds-preserved
loop-ds-preserved c =
    shown_more _ _ _ c.loop-ds.ds-index _ c.loop-ds-test.true c.ds-item.is c.in_ok-push.ensures.items c.loop-ds.invariant
