use Rattle.std.proofs.Common.{◌∙◌, ◌||◌, sym, ap}
use Rattle.dns_model.specs.Views.{is_revoked}
use Rattle.dns_trust.specs.Delegating.{shown}
use Rattle.dns_trust.proofs.Shown.{shown_at, shown_end, shown_within}
use Rattle.dns_anchor_roll.specs.FollowedKeys.{shows_form}
use Rattle.dns_anchor_roll.proofs.Records.{any_all, any_more}
use Rattle.dns_anchor_roll.proofs.examining.keys_of.Goals as goal

pub loop-next-preserved : goal.loop-next-preserved
loop-next-preserved c = λ q.
    let test = shows_form c.args.zone.now is_revoked q in
    c.in_ok-push_form.ensures q
    ∙ ap (λ b. b || test c.next-item.result.now) (c.loop-next.invariant q)
    ∙ sym (any_more test (shown c.args.records.now) c.loop-next.next-index c.next-item.result.now
    (shown_within c.args.records.now c.loop-next.next-index c.loop-next-test.true)
    (shown_at c.args.records.now c.loop-next.next-index c.next-item.result c.next-item.is))

pub returns : goal.returns
returns c = λ q.
    c.loop-next.invariant q
    ∙ any_all (shows_form c.args.zone.now is_revoked q) (shown c.args.records.now) c.loop-next.next-index
    (shown_end c.args.records.now c.loop-next.next-index c.loop-next-test.false)
