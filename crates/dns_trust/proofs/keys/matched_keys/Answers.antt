use Rattle.std.proofs.Common.{rules, ◌≡◌, ◌∙◌, sym}
use Rattle.dns_trust.specs.Beside.{is_matched_only}
use Rattle.dns_trust.specs.Judge.{judge_of}
use Rattle.dns_trust.proofs.Shown.{passed_more, failed_more}
use Rattle.dns_trust.proofs.keys.matched_keys.Goals as goal
use Rattle.dns_trust.proofs.keys.matched_keys.Goals.{then-is_matched_only+in_ok-push, else-is_matched_only}

pub loop-key-preserved : goal.loop-key-preserved
loop-key-preserved g c =
    let test = is_matched_only (judge_of g.V.Verifier.answers c.args.judge.now) c.args.set.now c.args.ds.now.records in
    let same : c.deref-key-items.result.now ≡ c.args.set.now.records = search rules in
    elim c.if-is_matched_only.branch [
      | then-is_matched_only+in_ok-push w ↦ rw w.keys-is
          (passed_more test _ _ _ _ c.loop-key.key-index _ same c.loop-key-test.true c.key-item.is
          (sym c.is_matched_only.ensures ∙ w.if-is_matched_only.true) w.in_ok-push.ensures.items c.loop-key.invariant)
      | else-is_matched_only w ↦ rw w.keys-is
          (failed_more test _ _ _ c.loop-key.key-index c.key-item.result same c.loop-key-test.true c.key-item.is
          (sym c.is_matched_only.ensures ∙ w.if-is_matched_only.false) c.loop-key.invariant)
    ]
