use Rattle.std.proofs.Common.{◌≡◌, length}
use Rattle.std.specs.Cmp.Lexicographic.{pointwise}
use Rattle.dns_rules.specs.CacheKeys.{same_bytes}
use Rattle.dns_trail.proofs.repeats.same_records.Given as goal

-- what is left decides
abbrev pub invariant-records : goal.invariant-records
invariant-records l = pointwise same_bytes l.some l.others ≡ pointwise same_bytes l.fn.some l.fn.others

abbrev pub decreases-records : goal.decreases-records
decreases-records l = length l.some
