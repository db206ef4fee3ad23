use Rattle.std.proofs.Common.{◌∙◌}
use Rattle.dns_trust.proofs.ChainOf.{numbers_more}
use Rattle.dns_trust.proofs.chains.numbers.Goals as goal

pub loop-place-preserved : goal.loop-place-preserved
loop-place-preserved c =
    rw (c.in_ok-push.ensures.items, c.in_ok-number_at.ensures)
    (numbers_more c.loop-place.numbers.items c.args.keys.now c.args.first c.loop-place.place c.loop-place-test.true
    ∙ c.loop-place.invariant)
