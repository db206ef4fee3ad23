use Rattle.std.proofs.Common.{◌∙◌, sym, arith}
use Rattle.dns_model.specs.Shapes.{canonical_form}
use Rattle.dns_rdata.proofs.RisingLemmas.{rising_start, rising_put}
use Rattle.dns_rdata.proofs.signed.rising_rdatas.Goals as goal

pub loop-index-init : goal.loop-index-init
loop-index-init c = c.new-rising.ensures.empty ∙ sym (rising_start (canonical_form c.args.record_type.0) c.args.rdatas.now)

pub loop-index-preserved : goal.loop-index-preserved
loop-index-preserved c =
    rising_put (canonical_form c.args.record_type.0) c.args.rdatas.now c.loop-index.index c.index-rdatas-index.result _ _ _
    (omega arith) (omega arith)
    c.index-rdatas-index.is c.in_ok-rdata.ensures c.loop-index.invariant c.in_ok-insert.ensures.keys
