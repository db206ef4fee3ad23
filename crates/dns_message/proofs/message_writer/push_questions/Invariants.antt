use Rattle.std.proofs.Common.{◌≡◌, ◌++◌, take}
use Rattle.std.specs.List.{flat_map}
use Rattle.dns_message.specs.WrittenAs.{question_bytes}
use Rattle.dns_message.proofs.message_writer.push_questions.Given as goal

abbrev pub invariant-loop-query : goal.invariant-loop-query
invariant-loop-query l = l.out.items ≡ l.fn.out.items ++ flat_map question_bytes (take l.query-index l.queries)
