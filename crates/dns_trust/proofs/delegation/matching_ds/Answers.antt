use Rattle.std.proofs.Common.{◌<◌, ◌∙◌, sym, arith}
use Rattle.dns_model.specs.Records.{Rr}
use Rattle.dns_model.specs.Keys.{ds_covers_key}
use Rattle.dns_rules.specs.Delegations.{is_ds_for}
use Rattle.dns_trust.proofs.Delegated.{met_here, met_past, unmet_past}
use Rattle.dns_trust.proofs.delegation.matching_ds.Goals as goal
use Rattle.dns_trust.proofs.delegation.matching_ds.Goals.{then-is_ds_for+else-is_match, else-is_ds_for}

pub returns-then-is_match : goal.returns-then-is_match
returns-then-is_match g c =
    let test = λ (r : Rr). ds_covers_key (g.V.Verifier.answers c.args.verifier.now) c.args.owner.now c.args.key.now.rdata r.rdata in
    let few : c.loop-ds.counted < 2 = omega arith in
    sym (met_here test (is_ds_for c.args.owner.now c.args.key.now) c.args.records.now c.loop-ds.ds-index c.loop-ds.counted
    c.ds-item.result few
    c.loop-ds-test.true c.ds-item.is (sym c.is_ds_for.ensures ∙ c.if-is_ds_for.true) (sym c.is_match.ensures ∙ c.if-is_match.true))
    ∙ c.loop-ds.invariant.1

pub loop-ds-preserved : goal.loop-ds-preserved
loop-ds-preserved g c =
    let test = λ (r : Rr). ds_covers_key (g.V.Verifier.answers c.args.verifier.now) c.args.owner.now c.args.key.now.rdata r.rdata in
    let few : c.loop-ds.counted < 2 = omega arith in
    elim c.if-is_ds_for.branch [
      | then-is_ds_for+else-is_match w ↦ rw w.counted-is (
        omega arith,
        met_past test (is_ds_for c.args.owner.now c.args.key.now) c.args.records.now c.loop-ds.ds-index c.loop-ds.counted
            c.ds-item.result few
            c.loop-ds-test.true c.ds-item.is (sym c.is_ds_for.ensures ∙ w.if-is_ds_for.true) (sym w.is_match.ensures ∙ w.if-is_match.false)
            ∙ c.loop-ds.invariant.1,
      )
      | else-is_ds_for w ↦ rw w.counted-is (
        omega arith,
        unmet_past test (is_ds_for c.args.owner.now c.args.key.now) c.args.records.now c.loop-ds.ds-index c.loop-ds.counted c.ds-item.result
            c.loop-ds-test.true c.ds-item.is (sym c.is_ds_for.ensures ∙ w.if-is_ds_for.false)
            ∙ c.loop-ds.invariant.1,
      )
    ]
