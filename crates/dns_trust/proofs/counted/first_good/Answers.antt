use Rattle.std.proofs.Common.{◌∙◌, sym}
use Rattle.dns_trust.proofs.Counts.{none_tried, tried_skip, tried_fail, tried_here, tried_end}
use Rattle.dns_trust.proofs.counted.first_good.Goals as goal

pub loop-key-init : goal.loop-key-init
loop-key-init g c = (none_tried _ _ _ _ c.new-counts.ensures.empty, tt)

pub loop-key-preserved-then-not-branch : goal.loop-key-preserved-then-not-branch
loop-key-preserved-then-not-branch g c = (
  tried_skip _ _ _ _ _ _ c.key-item.result c.loop-key-test.true c.key-item.is c.loop-key.invariant.0 c.in_ok-is_tried.ensures.counted
      (sym c.in_ok-is_tried.ensures.tried ∙ c.if-not-branch.true),
  c.loop-key.invariant.1,
)

pub returns-then-branch : goal.returns-then-branch
returns-then-branch g c =
    sym (tried_here _ _ _ _ _ c.key-item.result c.loop-key-test.true c.key-item.is c.loop-key.invariant.0
    (sym c.in_ok-is_tried.ensures.tried ∙ c.if-not-branch.false)
    (sym c.in_ok-is_good_read.ensures.good ∙ c.if-branch.true))

pub loop-key-preserved : goal.loop-key-preserved
loop-key-preserved g c = (
  tried_fail _ _ _ _ _ _ c.key-item.result c.loop-key-test.true c.key-item.is c.loop-key.invariant.0 c.in_ok-is_tried.ensures.counted
      (sym c.in_ok-is_tried.ensures.tried ∙ c.if-not-branch.false)
      (sym c.in_ok-is_good_read.ensures.good ∙ c.if-branch.false),
  c.in_ok-is_good_read.ensures.built,
)

pub returns : goal.returns
returns g c = sym (tried_end _ _ _ _ _ c.loop-key-test.false c.loop-key.invariant.0)
