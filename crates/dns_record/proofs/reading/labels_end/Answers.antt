use Rattle.std.proofs.Common.{sym, arith}
use Rattle.dns_record.proofs.NameSteps.{end_broken, end_here, end_more}
use Rattle.dns_record.proofs.reading.labels_end.Goals as goal

pub returns-in_err-label : goal.returns-in_err-label
returns-in_err-label c = rw c.from_residual.ensures (end_broken _ _ _ c.labels.invariant (sym c.in_err-label.ensures.value))

pub returns-then-label-eq0 : goal.returns-then-label-eq0
returns-then-label-eq0 c = end_here _ _ _ _ _ c.labels.invariant (sym c.in_ok-label.ensures.value) c.if-label-eq0.true

pub labels-preserved : goal.labels-preserved
labels-preserved c = end_more _ _ _ _ _ c.labels.invariant (sym c.in_ok-label.ensures.value) (omega (arith, c.if-label-eq0.false))
