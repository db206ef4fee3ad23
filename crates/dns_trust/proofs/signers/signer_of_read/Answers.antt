use Rattle.std.proofs.Common.{◌∙◌, sym}
use Rattle.dns_trust.specs.Judge.{judge_of}
use Rattle.dns_trust.specs.Delegating.{shown}
use Rattle.dns_trust.specs.SetSignatures.{is_good_of}
use Rattle.dns_trust.proofs.Searches.{find_here, find_past}
use Rattle.dns_trust.proofs.Shown.{shown_at, shown_within}
use Rattle.dns_trust.proofs.signers.signer_of_read.Goals as goal

pub returns-then-branch : goal.returns-then-branch
returns-then-branch g c =
    sym (find_here (is_good_of (judge_of g.V.Verifier.answers c.args.judge.now) c.args.signature.now) (shown c.args.keys.now)
    c.loop-key.key-index
    c.key-item.result.now (shown_within c.args.keys.now c.loop-key.key-index c.loop-key-test.true)
    (shown_at c.args.keys.now c.loop-key.key-index c.key-item.result c.key-item.is)
    (sym c.in_ok-is_good_read.ensures.good ∙ c.if-branch.true))
    ∙ c.loop-key.invariant.0

pub loop-key-preserved : goal.loop-key-preserved
loop-key-preserved g c = (
  find_past (is_good_of (judge_of g.V.Verifier.answers c.args.judge.now) c.args.signature.now) (shown c.args.keys.now) c.loop-key.key-index
      c.key-item.result.now (shown_within c.args.keys.now c.loop-key.key-index c.loop-key-test.true)
      (shown_at c.args.keys.now c.loop-key.key-index c.key-item.result c.key-item.is)
      (sym c.in_ok-is_good_read.ensures.good ∙ c.if-branch.false)
      ∙ c.loop-key.invariant.0,
  c.in_ok-is_good_read.ensures.built,
)
