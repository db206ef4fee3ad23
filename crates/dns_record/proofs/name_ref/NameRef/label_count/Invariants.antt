use Rattle.std.proofs.Common.{◌≡◌, ◌+◌, length}
use Rattle.dns_record.proofs.name_ref.NameRef.label_count.Given as goal

abbrev pub invariant-labels : goal.invariant-labels
invariant-labels l = l.count + length l.rest ≡ length l.self

abbrev pub decreases-labels : goal.decreases-labels
decreases-labels l = length l.rest
