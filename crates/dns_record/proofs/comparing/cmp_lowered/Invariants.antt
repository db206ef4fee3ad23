use Rattle.std.proofs.Common.{◌≡◌, map, length}
use Rattle.std.specs.Char.{to_ascii_lowercase}
use Rattle.std.specs.Cmp.Lexicographic.{slice_cmp}
use Rattle.std.specs.Ordering.{nat_cmp}
use Rattle.dns_record.proofs.comparing.cmp_lowered.Given as goal

abbrev pub invariant-bytes : goal.invariant-bytes
invariant-bytes l =
    slice_cmp nat_cmp (map to_ascii_lowercase l.left) (map to_ascii_lowercase l.right)
    ≡ slice_cmp nat_cmp (map to_ascii_lowercase l.one) (map to_ascii_lowercase l.two)

abbrev pub decreases-bytes : goal.decreases-bytes
decreases-bytes l = length l.left
