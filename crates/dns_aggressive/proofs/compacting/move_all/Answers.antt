use Rattle.std.proofs.Common.{arith}
use Rattle.std.proofs.lemmas.List.{get_or_default}
use Rattle.std.proofs.lemmas.List.Edits.{map_over_more}
use Rattle.dns_aggressive.specs.Orders.{nth}
use Rattle.dns_aggressive.proofs.compacting.move_all.Goals as goal

pub loop-number-preserved : goal.loop-number-preserved
loop-number-preserved c =
    let l = c.loop-number in
    map_over_more (nth c.args.moved.now) c.args.order.now l.order l.number (nth l.order l.number)
    c.loop-number-test.true l.invariant
    (get_or_default l.order l.number 0 (nth l.order l.number) (omega (arith, l.auto.order, c.loop-number-test.true)))
