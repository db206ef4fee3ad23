use Rattle.std.proofs.Common.{◌≡◌, map, drop}
use Rattle.dns_model.specs.Shapes.{parts_in}
use Rattle.dns_rdata.specs.Fields.{field_value}
use Rattle.dns_rdata.specs.Lowered.{lowered_form}
use Rattle.dns_rdata.proofs.CanonicalLemmas.{behind}
use Rattle.dns_rdata.proofs.canonical.lowered_rdata.Given as goal

-- what was lowered, and the fields that are left of the rest
abbrev pub invariant-loop-field : goal.invariant-loop-field
invariant-loop-field l = behind l.lowered.items (parts_in (drop l.field-index (map field_value l.fields)) l.rest)
    ≡ lowered_form l.fn.record_type.0 l.rdata
