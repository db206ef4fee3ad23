use Rattle.std.proofs.Common.{◌≡◌, length}
use Rattle.dns_master_file.specs.Front.{joined_in, with_bytes}
use Rattle.dns_master_file.proofs.front.joined.Given as goal

-- the bytes so far, and those of the words that are left
abbrev pub invariant-bytes : goal.invariant-bytes
invariant-bytes l = with_bytes l.word.items (joined_in l.rest) ≡ joined_in l.bytes

abbrev pub decreases-bytes : goal.decreases-bytes
decreases-bytes l = length l.rest
