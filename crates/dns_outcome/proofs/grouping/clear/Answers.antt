use Rattle.dns_rules.specs.Marking.{cleared}
use Rattle.dns_outcome.proofs.Positions.{map_over_at}
use Rattle.dns_outcome.proofs.grouping.clear.Goals as goal

pub loop-next-preserved : goal.loop-next-preserved
loop-next-preserved c =
    map_over_at cleared c.args.records.now c.loop-next.records c.loop-next.next-index c.next-item.result c.clear_one.new.next
    c.loop-next-test.true c.loop-next.invariant c.next-item.is c.clear_one.ensures
