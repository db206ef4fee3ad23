use Rattle.std.proofs.Common.{◌≡◌, ◌≤◌, length, map, drop}
use Rattle.dns_message.specs.RdataAt.{fields_at}
use Rattle.dns_rdata.specs.Fields.{field_value}
use Rattle.dns_message.specs.KnownNames.{AreKnown}
use Rattle.dns_message.proofs.rdata.spells_fields.Given as goal
use Rattle.dns_message.proofs.RdataReading.{with_bytes}

abbrev pub invariant-loop-field : goal.invariant-loop-field
invariant-loop-field l = record {
  so_far : with_bytes l.room.items (fields_at (map field_value (drop l.field-index l.shape)) l.message.bytes.now l.pos l.stop)
      ≡ fields_at (map field_value l.shape) l.message.bytes.now l.at l.stop;
  fits : l.pos ≤ length l.message.bytes.now;
  known : AreKnown l.message.bytes.now l.names;
}
