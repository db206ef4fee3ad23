use Rattle.std.proofs.Common.{[], ◌∷◌, ◌++◌, ap, sym, ◌∙◌}
use Rattle.dns_evidence.specs.Link.{link_value}
use Rattle.dns_chain_check.specs.LinkJudges.{link_judge}
use Rattle.dns_chain_check.proofs.Steps.{all_passed, ends, goes_on, taken_more}
use Rattle.dns_chain_check.proofs.check.all_hold.Goals as goal

pub returns-then-not-branch : goal.returns-then-not-branch
returns-then-not-branch g c =
    ends link_value (link_judge g.V.Verifier.answers c.args.judge.now) c.args.links.now c.loop-number.number c.index-links-number.result
    c.in_ok-holds_after.field-0 c.loop-number-test.true c.index-links-number.is c.in_ok-holds_after.ensures c.if-not-branch.true
    c.loop-number.invariant.0

pub loop-number-preserved : goal.loop-number-preserved
loop-number-preserved g c = (
  goes_on link_value (link_judge g.V.Verifier.answers c.args.judge.now) c.args.links.now c.loop-number.number c.index-links-number.result
      c.in_ok-holds_after.field-0 c.loop-number-test.true c.index-links-number.is c.in_ok-holds_after.ensures c.if-not-branch.false
      c.loop-number.invariant.0,
  c.in_ok-push.ensures.items
      ∙ ap (λ next. c.loop-number.indexed.items ++ next ∷ []) c.in_ok-of.ensures
      ∙ ap (λ passed. passed ++ link_value c.index-links-number.result ∷ []) c.loop-number.invariant.1
      ∙ sym (taken_more link_value c.args.links.now c.loop-number.number c.index-links-number.result c.loop-number-test.true
      c.index-links-number.is),
)

pub returns : goal.returns
returns g c =
    all_passed link_value (link_judge g.V.Verifier.answers c.args.judge.now) c.args.links.now c.loop-number.number c.loop-number-test.false
    c.loop-number.invariant.0
