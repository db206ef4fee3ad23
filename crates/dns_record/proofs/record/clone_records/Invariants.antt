use Rattle.std.proofs.Common.{◌≡◌, take}
use Rattle.dns_record.proofs.record.clone_records.Given as goal

-- the records so far are in the copy
abbrev pub invariant-loop-record : goal.invariant-loop-record
invariant-loop-record l = l.all.items ≡ take l.record-index l.records.items
