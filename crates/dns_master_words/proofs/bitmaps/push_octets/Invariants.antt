use Rattle.std.proofs.Common.{◌≡◌, ◌++◌, ◌+◌, ◌-◌, ◌*◌, ◌≤◌}
use Rattle.dns_master_words.specs.Bitmaps.{octets_of}
use Rattle.dns_master_words.proofs.bitmaps.push_octets.Given as goal

-- the bytes so far, and those that are left
abbrev pub invariant-octets : goal.invariant-octets
invariant-octets l =
    (l.into.items ++ octets_of l.types (l.number * 256 + l.place * 8) (l.size - l.place)
    ≡ l.fn.into.items ++ octets_of l.types (l.number * 256) l.size) ×
    (l.place ≤ l.size)

abbrev pub decreases-octets : goal.decreases-octets
decreases-octets l = l.size - l.place
