use Rattle.std.proofs.lemmas.Result.{err_from_is_err_and}
use Rattle.dns_message.proofs.NameReading.{spelled_alone, wire_form, named, name_fails}
use Rattle.dns_message.proofs.name_reader.name_of.Goals as goal

pub returns-in_err-next-clause-reads : goal.returns-in_err-next-clause-reads
returns-in_err-next-clause-reads c =
    let p = err_from_is_err_and c.from_residual.result c.from_residual.ensures.1 in
    rw (p.1, p.2) (name_fails c.in_err-next.field-0.0.kind c.in_err-next.field-0.0.offset c.args.message.now.bytes.now
    c.args.at c.in_err-next.ensures.fault)

pub from_octets-name-requires : goal.from_octets-name-requires
from_octets-name-requires c =
    let alone = spelled_alone _ _ _ _ c.clear.ensures.items c.in_ok-next.ensures.name in
    rw (c.in_ok-from_slice.ensures, c.as_slice.ensures.value) (wire_form _ _ _ alone)

pub returns-clause-reads : goal.returns-clause-reads
returns-clause-reads c =
    let alone = spelled_alone _ _ _ _ c.clear.ensures.items c.in_ok-next.ensures.name in
    rw (c.from_octets-name.ensures, c.in_ok-from_slice.ensures, c.as_slice.ensures.value) (named _ _ _ alone)
