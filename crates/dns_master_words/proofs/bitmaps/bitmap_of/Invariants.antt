use Rattle.std.proofs.Common.{◌≡◌, ◌++◌, ◌-◌, ◌≤◌}
use Rattle.dns_master_words.specs.Bitmaps.{bitmap_of, windows_of}
use Rattle.dns_master_words.proofs.bitmaps.bitmap_of.Given as goal

-- the windows so far, and those that are left
abbrev pub invariant-windows : goal.invariant-windows
invariant-windows l =
    (l.bitmap.items ++ windows_of l.types l.number (256 - l.number) ≡ bitmap_of l.types) × (l.number ≤ 256)

abbrev pub decreases-windows : goal.decreases-windows
decreases-windows l = 256 - l.number
