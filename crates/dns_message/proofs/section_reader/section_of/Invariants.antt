use Rattle.std.proofs.Common.{◌≡◌, ◌≤◌, ◌-◌, length, false}
use Rattle.std.specs.Prelude.{IfSome}
use Rattle.dns_message.specs.RecordAt.{section_at}
use Rattle.dns_message.specs.KnownNames.{AreKnown}
use Rattle.dns_message.proofs.RecordReading.{with_front}
use Rattle.dns_message.proofs.section_reader.section_of.Given as goal

abbrev pub invariant-records : goal.invariant-records
invariant-records l = record {
  so_far : with_front l.records.items l.opt (section_at (l.count - l.counter) l.allowed l.message.bytes.now l.pos)
      ≡ section_at l.count l.allow_opt l.message.bytes.now l.at;
  once : IfSome l.opt (λ x. l.allowed ≡ false);
  fits : l.pos ≤ length l.message.bytes.now;
  known : AreKnown l.message.bytes.now l.names;
}
