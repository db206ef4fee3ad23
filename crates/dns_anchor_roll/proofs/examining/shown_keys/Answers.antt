use Rattle.std.proofs.Common.{◌∙◌, ◌||◌, sym, ap}
use Rattle.dns_anchor_roll.specs.FollowedKeys.{is_unrevoked, shows_form}
use Rattle.dns_anchor_roll.proofs.Records.{any_all, any_more}
use Rattle.dns_anchor_roll.proofs.examining.shown_keys.Goals as goal

pub loop-next-preserved : goal.loop-next-preserved
loop-next-preserved c = λ q.
    let test = shows_form c.args.zone.now is_unrevoked q in
    c.in_ok-push_form.ensures q
    ∙ ap (λ b. b || test c.next-item.result) (c.loop-next.invariant q)
    ∙ sym (any_more test (c.args.records.now) c.loop-next.next-index c.next-item.result
    c.loop-next-test.true
    c.next-item.is)

pub returns : goal.returns
returns c = λ q.
    c.loop-next.invariant q
    ∙ any_all (shows_form c.args.zone.now is_unrevoked q) (c.args.records.now) c.loop-next.next-index
    c.loop-next-test.false
