use Rattle.std.proofs.Common.{◌∙◌, sym, ap, refl}
use Rattle.std.specs.List.{filter}
use Rattle.dns_trust.proofs.Shown.{passed_more, failed_more}
use Rattle.dns_anchor_roll.specs.Findings.{stands_at}
use Rattle.dns_anchor_roll.proofs.examining.signatures_once.Goals as goal
use Rattle.dns_anchor_roll.proofs.examining.signatures_once.Goals.{then-stands_at+in_ok-push, else-stands_at}

pub loop-signature-preserved : goal.loop-signature-preserved
loop-signature-preserved c =
    let test = stands_at c.args.set.now in
    elim c.if-stands_at.branch [
      | then-stands_at+in_ok-push w ↦ rw w.all-is
          (passed_more test _ _ c.tried-signatures.result.now _ c.loop-signature.signature-index _ refl c.loop-signature-test.true c.signature-item.is
          (sym c.stands_at.ensures ∙ w.if-stands_at.true) w.in_ok-push.ensures.items c.loop-signature.invariant)
      | else-stands_at w ↦ rw w.all-is
          (failed_more test _ c.tried-signatures.result.now _ c.loop-signature.signature-index c.signature-item.result refl c.loop-signature-test.true c.signature-item.is
          (sym c.stands_at.ensures ∙ w.if-stands_at.false) c.loop-signature.invariant)
    ]
