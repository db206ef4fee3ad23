use Rattle.std.proofs.Common.{length}
use Rattle.dns_record.proofs.ReadSteps.{IsReading}
use Rattle.dns_record.proofs.text_reading.labels_of_text.Given as goal

abbrev pub invariant-labels : goal.invariant-labels
invariant-labels l = IsReading l.text l.wire.items l.left

abbrev pub decreases-labels : goal.decreases-labels
decreases-labels l = length l.left
