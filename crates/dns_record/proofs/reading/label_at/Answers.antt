use Rattle.dns_record.proofs.NameSteps.{label_in-nil}
use Rattle.dns_record.proofs.reading.label_at.Goals as goal

pub returns-in_err-size-clause-value : goal.returns-in_err-size-clause-value
returns-in_err-size-clause-value c = rw c.from_residual.ensures (label_in-nil _ c.in_err-size.ensures.cases)
