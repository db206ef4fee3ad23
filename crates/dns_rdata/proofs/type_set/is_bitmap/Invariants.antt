use Rattle.std.proofs.Common.{◌≡◌, length}
use Rattle.dns_model.specs.Shapes.{windows_in, is_bitmap}
use Rattle.dns_rdata.specs.Windows.{rises_after}
use Rattle.dns_rdata.proofs.type_set.is_bitmap.Given as goal

-- the rest must be a row that rises from the last window
abbrev pub invariant-loop-rest : goal.invariant-loop-rest
invariant-loop-rest l = rises_after l.last (windows_in l.rest l.rest) ≡ is_bitmap l.bytes

abbrev pub decreases-loop-rest : goal.decreases-loop-rest
decreases-loop-rest l = length l.rest
