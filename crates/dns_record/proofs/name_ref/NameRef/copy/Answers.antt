use Rattle.std.proofs.Common.{sym, ap, ◌∙◌}
use Rattle.std.specs.List.{list_all}
use Rattle.dns_model.specs.Bytes.{is_bytes}
use Rattle.dns_model.specs.Names.{is_name}
use Rattle.dns_model.specs.NameForm.{labels_of}
use Rattle.dns_model.proofs.WireLemmas.{is_name-labels_of, wire-labels_of}
use Rattle.dns_record.proofs.ReadSteps.{is_bytes-labels}
use Rattle.dns_record.proofs.name_ref.NameRef.copy.Goals as goal

pub invariant_of-result : goal.invariant_of-result
invariant_of-result c = rw c.known_bytes-wire.ensures.same c.self.invariant

pub returns-clause-value : goal.returns-clause-value
returns-clause-value c = ap labels_of c.known_bytes-wire.ensures.same ∙ c.self.view_is

pub returns-clause-name : goal.returns-clause-name
returns-clause-name c = ap is_name (sym c.self.view_is) ∙ is_name-labels_of _ c.self.invariant

pub returns-clause-bytes : goal.returns-clause-bytes
returns-clause-bytes c =
    ap (list_all is_bytes) (sym c.self.view_is)
    ∙ is_bytes-labels (labels_of c.self.inside.wire.now) (ap is_bytes (wire-labels_of _ c.self.invariant)
    ∙ c.known_bytes-wire.ensures.bytes)
