use Rattle.dns_rdata.proofs.OnceLemmas.{signed_once}
use Rattle.dns_rdata.proofs.laws.equal_records_are_signed_once.Goals as goal

pub returns : goal.returns
returns c =
    signed_once c.args._owner.now c.args._record_type.0 c.args._dns_class.0 c.args._first.now c.args._second.now
    c.args._rest.now c.args._sig.now c.requires
