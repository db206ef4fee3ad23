use Rattle.std.proofs.Common.{[], refl, ◌∙◌, ap}
use Rattle.dns_model.specs.NameForm.{labels_of}
use Rattle.dns_model.proofs.WireLemmas.{IsWire-wire, labels_of-wire}
use Rattle.dns_record.proofs.name_ref.NameRef.root.Goals as goal

pub of_wire-requires : goal.of_wire-requires
of_wire-requires c = rw c.as_slice.ensures (IsWire-wire [] refl)

pub returns : goal.returns
returns c = c.of_wire.ensures ∙ ap labels_of c.as_slice.ensures ∙ labels_of-wire [] refl
