use Rattle.std.proofs.Common.{◌∙◌, sym, ap, arith}
use Rattle.dns_model.specs.Records.{Rr}
use Rattle.dns_model.specs.Shapes.{canonical_form}
use Rattle.dns_model.specs.Signing.{rising_once}
use Rattle.dns_model.proofs.EachLemmas.{map-map}
use Rattle.dns_rdata.proofs.RisingLemmas.{rising_start, rising_put}
use Rattle.dns_rdata.proofs.signed.rising_records.Goals as goal

pub loop-index-init : goal.loop-index-init
loop-index-init c =
    let form = λ (r : Rr). canonical_form c.args.record_type.0 r.rdata in
    c.new-rising.ensures.empty ∙ sym (ap rising_once (map-map (canonical_form c.args.record_type.0) (λ (r : Rr). r.rdata) _)
    ∙ rising_start form c.args.records.now)

pub loop-index-preserved : goal.loop-index-preserved
loop-index-preserved c =
    let form = λ (r : Rr). canonical_form c.args.record_type.0 r.rdata in
    let same = c.in_ok-rdata.ensures ∙ ap form c.record.view_is in
    let before = c.loop-index.invariant ∙ ap rising_once (map-map (canonical_form c.args.record_type.0) (λ (r : Rr). r.rdata) _) in
    rising_put form c.args.records.now c.loop-index.index c.index-records-index.result _ _ _ (omega arith) (omega arith)
    c.index-records-index.is same before c.in_ok-insert.ensures.keys
    ∙ sym (ap rising_once (map-map (canonical_form c.args.record_type.0) (λ (r : Rr). r.rdata) _))
