use Rattle.std.proofs.Common.{◌≡◌, map, length}
use Rattle.std.specs.Cmp.Lexicographic.{slice_cmp}
use Rattle.dns_rules.specs.CacheKeys.{bytes_of}
use Rattle.dns_cache.specs.KeyOrder.{record_cmp}
use Rattle.dns_cache.proofs.key_order.cmp_records.Given as goal

-- what is left of both decides
abbrev pub invariant-records : goal.invariant-records
invariant-records l = slice_cmp record_cmp (map bytes_of l.left) (map bytes_of l.right)
    ≡ slice_cmp record_cmp (map bytes_of l.one) (map bytes_of l.two)

abbrev pub decreases-records : goal.decreases-records
decreases-records l = length l.left
