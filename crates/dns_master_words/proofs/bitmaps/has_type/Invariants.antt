use Rattle.std.proofs.Common.{◌≡◌, length}
use Rattle.dns_master_words.specs.Bitmaps.{has_type}
use Rattle.dns_master_words.proofs.bitmaps.has_type.Given as goal

abbrev pub invariant-types : goal.invariant-types
invariant-types l = has_type l.types l.rtype ≡ has_type l.rest l.rtype

abbrev pub decreases-types : goal.decreases-types
decreases-types l = length l.rest
