use Rattle.std.proofs.Common.{◌≡◌, map, take}
use Rattle.dns_message.proofs.message_writer.lent.Given as goal

-- the records so far are lent
abbrev pub invariant-loop-record : goal.invariant-loop-record
invariant-loop-record l = map (λ r. r.now) l.all.items ≡ take l.record-index l.records
