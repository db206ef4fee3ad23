use Rattle.std.proofs.Common.{◌∙◌, ◌||◌, false, sym, ap}
use Rattle.dns_rules.specs.Validity.{is_good_by}
use Rattle.dns_trust.specs.Judge.{judge_of}
use Rattle.dns_trust.specs.Delegating.{shown}
use Rattle.dns_trust.proofs.Shown.{shown_at, shown_within}
use Rattle.dns_anchor_roll.proofs.Records.{any_at, any_more}
use Rattle.dns_anchor_roll.proofs.examining.is_good_by_any.Goals as goal

pub returns-then-branch : goal.returns-then-branch
returns-then-branch g c =
    sym (any_at (is_good_by (judge_of g.V.Verifier.answers c.args.judge.now) c.args.set.now c.args.signature.now) (shown c.args.keys.now)
    c.loop-key.key-index c.key-item.result.now (shown_within c.args.keys.now c.loop-key.key-index c.loop-key-test.true)
    (shown_at c.args.keys.now c.loop-key.key-index c.key-item.result c.key-item.is) (sym c.in_ok-is_good_by.ensures ∙ c.if-branch.true))

pub loop-key-preserved : goal.loop-key-preserved
loop-key-preserved g c =
    let test = is_good_by (judge_of g.V.Verifier.answers c.args.judge.now) c.args.set.now c.args.signature.now in
    any_more test (shown c.args.keys.now) c.loop-key.key-index c.key-item.result.now
    (shown_within c.args.keys.now c.loop-key.key-index c.loop-key-test.true)
    (shown_at c.args.keys.now c.loop-key.key-index c.key-item.result c.key-item.is)
    ∙ ap (λ b. b || test c.key-item.result.now) c.loop-key.invariant
    ∙ sym c.in_ok-is_good_by.ensures
    ∙ c.if-branch.false
