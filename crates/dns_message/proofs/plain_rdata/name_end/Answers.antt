use Rattle.std.proofs.Common.{sym}
use Rattle.dns_message.proofs.RdataStanding.{name_ends}
use Rattle.dns_message.proofs.plain_rdata.name_end.Goals as goal

pub returns : goal.returns
returns c = rw c.wire.ensures.value (name_ends c.args.bytes.now c.args.pos c.args.stop _ _ c.requires.rises c.requires.stop
    (sym c.in_ok-name.ensures))
