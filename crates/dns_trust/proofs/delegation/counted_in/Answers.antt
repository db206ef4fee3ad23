use Rattle.dns_trust.specs.Delegating.{shown}
use Rattle.dns_trust.proofs.Delegated.{none_counted, counted_more, counted_all}
use Rattle.dns_trust.proofs.Shown.{shown_at, shown_end, shown_within}
use Rattle.dns_trust.proofs.delegation.counted_in.Goals as goal

pub loop-ds-init : goal.loop-ds-init
loop-ds-init c = none_counted c.args.owner.now (shown c.args.records.now) _ c.new-counted.ensures.empty

pub loop-ds-preserved : goal.loop-ds-preserved
loop-ds-preserved c =
    counted_more c.args.owner.now (shown c.args.records.now) c.loop-ds.ds-index _ _ c.ds-item.result.now
    (shown_within c.args.records.now c.loop-ds.ds-index c.loop-ds-test.true)
    (shown_at c.args.records.now c.loop-ds.ds-index c.ds-item.result c.ds-item.is) c.loop-ds.invariant c.in_ok-count.ensures

pub returns : goal.returns
returns c =
    counted_all c.args.owner.now (shown c.args.records.now) c.loop-ds.ds-index _
    (shown_end c.args.records.now c.loop-ds.ds-index c.loop-ds-test.false) c.loop-ds.invariant
