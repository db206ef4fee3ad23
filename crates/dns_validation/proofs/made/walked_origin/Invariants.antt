use Rattle.std.proofs.Common.{◌≡◌, length, reverse}
use Rattle.dns_validation.specs.Machine.{origin_of}
use Rattle.dns_validation.proofs.made.walked_origin.Given as goal

-- those behind didn't have the key
abbrev pub invariant-all : goal.invariant-all
invariant-all l = origin_of (reverse l.fn.all) l.entry ≡ origin_of (reverse l.all) l.entry

abbrev pub decreases-all : goal.decreases-all
decreases-all l = length l.all
