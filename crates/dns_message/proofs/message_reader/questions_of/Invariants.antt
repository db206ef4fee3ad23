use Rattle.std.proofs.Common.{◌≡◌, ◌≤◌, ◌-◌, length}
use Rattle.dns_message.specs.MessageAt.{questions_at}
use Rattle.dns_message.specs.KnownNames.{AreKnown}
use Rattle.dns_message.proofs.RecordReading.{with_questions}
use Rattle.dns_message.proofs.message_reader.questions_of.Given as goal

abbrev pub invariant-questions : goal.invariant-questions
invariant-questions l = record {
  so_far : with_questions l.queries.items (questions_at (l.count - l.counter) l.message.bytes.now l.pos)
      ≡ questions_at l.count l.message.bytes.now l.at;
  fits : l.pos ≤ length l.message.bytes.now;
  known : AreKnown l.message.bytes.now l.names;
}
