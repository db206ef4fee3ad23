use Rattle.std.proofs.Common.{◌∙◌, refl, sym, arith}
use Rattle.dns_transfer.proofs.StageLemmas.{soas_all, soas_no, soas_yes}
use Rattle.dns_transfer.proofs.stage.soas.Goals as goal
use Rattle.dns_transfer.proofs.stage.soas.Goals.{then-is_soa, else-is_soa}

pub loop-record-init : goal.loop-record-init
loop-record-init c = record { counted = refl; bounded = omega arith }

pub loop-record-preserved : goal.loop-record-preserved
loop-record-preserved c =
    let records = c.args.records.now in
    let i = c.loop-record.record-index in
    elim c.if-is_soa.branch [
      | then-is_soa w ↦
          let more = soas_yes records i c.record-item.result c.loop-record-test.true c.record-item.is
          (sym c.is_soa.ensures ∙ w.if-is_soa.true) in
          record { counted = cc; bounded = omega arith }
      | else-is_soa w ↦
          let more = soas_no records i c.record-item.result c.loop-record-test.true c.record-item.is
          (sym c.is_soa.ensures ∙ w.if-is_soa.false) in
          record { counted = cc; bounded = omega arith }
    ]

pub returns : goal.returns
returns c =
    c.loop-record.invariant.counted ∙ soas_all c.args.records.now c.loop-record.record-index c.loop-record-test.false
