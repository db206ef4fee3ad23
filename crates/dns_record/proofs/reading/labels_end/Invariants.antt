use Rattle.std.proofs.Common.{length}
use Rattle.dns_record.proofs.NameSteps.{IsEnd}
use Rattle.dns_record.proofs.reading.labels_end.Given as goal

abbrev pub invariant-labels : goal.invariant-labels
invariant-labels l = IsEnd l.bytes l.rest l.end

abbrev pub decreases-labels : goal.decreases-labels
decreases-labels l = length l.rest
