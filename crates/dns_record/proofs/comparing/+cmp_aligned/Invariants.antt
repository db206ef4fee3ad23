use Rattle.std.proofs.Common.{length}
use Rattle.dns_record.proofs.comparing.+cmp_aligned.Given as goal

abbrev pub decreases-cmp_aligned : goal.decreases-cmp_aligned
decreases-cmp_aligned l = length l.one.now
