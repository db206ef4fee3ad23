use Rattle.std.proofs.Common.{◌≡◌, ◌≤◌, length}
use Rattle.dns_master_words.specs.Bitmaps.{larger, window_size}
use Rattle.dns_master_words.proofs.bitmaps.window_size.Given as goal

-- the size so far, or that for the types that are left
abbrev pub invariant-types : goal.invariant-types
invariant-types l = (larger l.size (window_size l.rest l.number) ≡ window_size l.types l.number) × (l.size ≤ 32)

abbrev pub decreases-types : goal.decreases-types
decreases-types l = length l.rest
