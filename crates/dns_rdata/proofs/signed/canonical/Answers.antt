use Rattle.std.proofs.Common.{length, ap, arith}
use Rattle.dns_rdata.proofs.SizeLemmas.{length-canonical_form}
use Rattle.dns_rdata.proofs.signed.canonical.Goals as goal

pub from_octets-requires : goal.from_octets-requires
from_octets-requires c =
    omega (arith, ap length c.in_ok-bytes.ensures, length-canonical_form c.args.record_type.0 c.as_slice.result.now)
