use Rattle.dns_chain_check.proofs.Members.{one_held}
use Rattle.dns_chain_check.proofs.indexed.rdatas_in.Goals as goal

pub loop-rdata-preserved : goal.loop-rdata-preserved
loop-rdata-preserved c =
    one_held c.args.rdatas.now c.loop-rdata.rdata-index c.rdata-item.result c.as_slice.result c.loop-rdata.members
    c.insert.new.self c.loop-rdata-test.true
    c.rdata-item.is c.as_slice.ensures.bytes c.in_ok-insert.ensures.updates c.loop-rdata.invariant
