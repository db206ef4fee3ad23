use Rattle.std.proofs.Common.{◌≡◌, ◌+◌, ◌≤◌, false, length}
use Rattle.dns_master_file.specs.Front.{quoted_size}
use Rattle.dns_master_file.proofs.front.quoted_size.Given as goal

-- the bytes that were passed and those that are left before the quote are all before it
abbrev pub invariant-bytes : goal.invariant-bytes
invariant-bytes l =
    (quoted_size l.escaped l.rest + length l.bytes ≡ quoted_size false l.bytes + length l.rest) ×
    (length l.rest ≤ length l.bytes)

abbrev pub decreases-bytes : goal.decreases-bytes
decreases-bytes l = length l.rest
