use Rattle.std.proofs.Common.{[], refl}
use Rattle.dns_model.proofs.WireLemmas.{IsWire-wire, labels_of-wire}
use Rattle.dns_record.proofs.name.Name.root.Goals as goal

pub invariant_of-result : goal.invariant_of-result
invariant_of-result c = rw c.in_ok-wire.ensures (IsWire-wire [] refl)

pub returns : goal.returns
returns c = rw c.in_ok-wire.ensures (labels_of-wire [] refl)
