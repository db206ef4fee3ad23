use Rattle.std.proofs.Common.{sym, ap, ◌∙◌}
use Rattle.dns_model.specs.Names.{wire, is_name}
use Rattle.dns_model.proofs.WireLemmas.{wire-labels_of, is_name-labels_of}
use Rattle.dns_record.proofs.name.Name.wire.Goals as goal

pub returns-clause-value : goal.returns-clause-value
returns-clause-value c = c.as_slice.ensures ∙ sym (wire-labels_of _ c.self.invariant) ∙ ap wire c.self.view_is

pub returns-clause-name : goal.returns-clause-name
returns-clause-name c = ap is_name (sym c.self.view_is) ∙ is_name-labels_of _ c.self.invariant
