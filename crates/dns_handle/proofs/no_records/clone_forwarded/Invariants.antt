use Rattle.std.proofs.Common.{◌≡◌, take}
use Rattle.dns_handle.proofs.no_records.clone_forwarded.Given as goal

-- the records so far are in the copy
abbrev pub invariant-loop-forwarded : goal.invariant-loop-forwarded
invariant-loop-forwarded l = l.copies.items ≡ take l.forwarded-index l.all.items
