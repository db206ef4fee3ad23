use Rattle.std.proofs.Common.{◌≡◌, ◌++◌, take}
use Rattle.std.specs.List.{flat_map}
use Rattle.dns_message.specs.WrittenAs.{record_bytes}
use Rattle.dns_message.proofs.message_writer.push_records.Given as goal

abbrev pub invariant-loop-record : goal.invariant-loop-record
invariant-loop-record l = l.out.items ≡ l.fn.out.items ++ flat_map (λ r. record_bytes r.now) (take l.record-index l.records)
