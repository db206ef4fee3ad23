use Rattle.std.proofs.Common.{◌≡◌, ◌≤◌, map, drop}
use Rattle.std.specs.Prelude.{slice_range}
use Rattle.dns_message.specs.RdataAt.{fields_at}
use Rattle.dns_rdata.specs.Fields.{field_value}
use Rattle.dns_message.proofs.RdataReading.{with_bytes}
use Rattle.dns_message.proofs.plain_rdata.is_spelled.Given as goal

abbrev pub invariant-loop-field : goal.invariant-loop-field
invariant-loop-field l = record {
  so_far : with_bytes (slice_range l.bytes l.at l.pos) (fields_at (map field_value (drop l.field-index l.shape)) l.bytes l.pos l.stop)
      ≡ fields_at (map field_value l.shape) l.bytes l.at l.stop;
  rises : l.at ≤ l.pos;
  inside : l.pos ≤ l.stop;
}
