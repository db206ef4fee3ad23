use Rattle.std.proofs.Common.{◌≡◌, map, drop}
use Rattle.std.specs.Option.{is_some}
use Rattle.dns_model.specs.Shapes.{parts_in, has_shape}
use Rattle.dns_rdata.specs.Fields.{field_value}
use Rattle.dns_rdata.proofs.canonical.has_shape.Given as goal

-- the rest must have the fields that are left
abbrev pub invariant-loop-field : goal.invariant-loop-field
invariant-loop-field l = is_some (parts_in (drop l.field-index (map field_value l.fields)) l.rest) ≡ has_shape l.fn.record_type.0 l.rdata
