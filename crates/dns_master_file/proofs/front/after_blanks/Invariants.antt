use Rattle.std.proofs.Common.{◌≡◌, length}
use Rattle.dns_master_file.specs.Front.{after_blanks}
use Rattle.dns_master_file.proofs.front.after_blanks.Given as goal

abbrev pub invariant-blanks : goal.invariant-blanks
invariant-blanks l = after_blanks l.rest ≡ after_blanks l.bytes

abbrev pub decreases-blanks : goal.decreases-blanks
decreases-blanks l = length l.rest
