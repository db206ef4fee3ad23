use Rattle.std.proofs.Common.{◌∙◌, ◌∷◌, [], refl, sym, ap}
use Rattle.std.specs.Prelude.{if◌then◌else◌}
use Rattle.dns_anchor_roll.specs.FollowedKeys.{is_given}
use Rattle.dns_anchor_roll.specs.Tables.{standing_in}
use Rattle.dns_anchor_roll.specs.declared.standing.Standing.TheVariants.{Trusted}
use Rattle.dns_anchor_roll.proofs.Tables.{given_all, given_more}
use Rattle.dns_anchor_roll.proofs.key_table.known_of.Goals as goal

pub loop-rdata-preserved : goal.loop-rdata-preserved
loop-rdata-preserved c = λ q.
    given_more c.args.given.now c.loop-rdata.rdata-index c.rdata-item.result _ _ q c.loop-rdata-test.true c.rdata-item.is
    (c.loop-rdata.invariant q) (c.in_ok-trust.ensures q ∙ ap (λ r. if is_given (r ∷ []) q then Trusted else standing_in c.loop-rdata.known q) c.as_slice.ensures.bytes)

pub returns : goal.returns
returns c = λ q. given_all c.args.given.now c.loop-rdata.rdata-index _ q c.loop-rdata-test.false (c.loop-rdata.invariant q)
