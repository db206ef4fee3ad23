use Rattle.dns_model.proofs.WireLemmas.{IsWire-wire, labels_of-wire}
use Rattle.dns_record.proofs.name.Name.of_ref.Goals as goal

pub invariant_of-result : goal.invariant_of-result
invariant_of-result c = rw (c.in_ok-wire.ensures, c.wire.ensures.value) (IsWire-wire _ c.wire.ensures.name)

pub returns : goal.returns
returns c = rw (c.in_ok-wire.ensures, c.wire.ensures.value) (labels_of-wire _ c.wire.ensures.name)
