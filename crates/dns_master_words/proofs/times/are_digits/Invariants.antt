use Rattle.std.proofs.Common.{◌≡◌, length}
use Rattle.std.specs.Str.{all_ascii_digits}
use Rattle.dns_master_words.proofs.times.are_digits.Given as goal

abbrev pub invariant-bytes : goal.invariant-bytes
invariant-bytes l = all_ascii_digits l.word ≡ all_ascii_digits l.rest

abbrev pub decreases-bytes : goal.decreases-bytes
decreases-bytes l = length l.rest
