use Rattle.std.proofs.Common.{◌≡◌, length}
use Rattle.dns_model.specs.Shapes.{windows_in, bitmap_has}
use Rattle.dns_rdata.specs.Windows.{found_or_has}
use Rattle.dns_rdata.proofs.type_set.bitmap_has.Given as goal

-- what was found so far, and what the rest has
abbrev pub invariant-loop-rest : goal.invariant-loop-rest
invariant-loop-rest l = found_or_has l.found l.record_type (windows_in l.rest l.rest) ≡ bitmap_has l.bytes l.record_type

abbrev pub decreases-loop-rest : goal.decreases-loop-rest
decreases-loop-rest l = length l.rest
