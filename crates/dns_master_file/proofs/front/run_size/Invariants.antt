use Rattle.std.proofs.Common.{◌≡◌, ◌+◌, ◌≤◌, false, length}
use Rattle.dns_master_file.specs.Front.{run_size}
use Rattle.dns_master_file.proofs.front.run_size.Given as goal

-- the bytes that were passed and those that are left of the word are the word
abbrev pub invariant-bytes : goal.invariant-bytes
invariant-bytes l =
    (run_size l.escaped l.rest + length l.bytes ≡ run_size false l.bytes + length l.rest) ×
    (length l.rest ≤ length l.bytes)

abbrev pub decreases-bytes : goal.decreases-bytes
decreases-bytes l = length l.rest
