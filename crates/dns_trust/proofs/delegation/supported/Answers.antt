use Rattle.std.proofs.Common.{◌∙◌, sym, refl}
use Rattle.dns_rules.specs.Delegations.{is_supported_ds}
use Rattle.dns_trust.proofs.Shown.{passed_more, failed_more}
use Rattle.dns_trust.proofs.delegation.supported.Goals as goal
use Rattle.dns_trust.proofs.delegation.supported.Goals.{then-is_supported_ds+in_ok-push, else-is_supported_ds}

pub loop-ds-preserved : goal.loop-ds-preserved
loop-ds-preserved g c =
    let test = is_supported_ds (g.V.Verifier.answers c.args.verifier.now) in
    elim c.if-is_supported_ds.branch [
      | then-is_supported_ds+in_ok-push w ↦ rw w.supported-is
          (passed_more test _ _ _ _ c.loop-ds.ds-index _ refl c.loop-ds-test.true c.ds-item.is
          (sym c.is_supported_ds.ensures ∙ w.if-is_supported_ds.true) w.in_ok-push.ensures.items c.loop-ds.invariant)
      | else-is_supported_ds w ↦ rw w.supported-is
          (failed_more test _ _ _ c.loop-ds.ds-index c.ds-item.result refl c.loop-ds-test.true c.ds-item.is
          (sym c.is_supported_ds.ensures ∙ w.if-is_supported_ds.false) c.loop-ds.invariant)
    ]
