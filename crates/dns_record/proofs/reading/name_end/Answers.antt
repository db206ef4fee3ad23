use Rattle.std.proofs.Common.{sym}
use Rattle.dns_record.proofs.NameSteps.{front_found, front_none, front_too_long}
use Rattle.dns_record.proofs.reading.name_end.Goals as goal

pub returns-in_err-end : goal.returns-in_err-end
returns-in_err-end c = rw c.from_residual.ensures (front_none _ (sym c.in_err-end.ensures))

pub returns-then-end-le-MAX_LEN : goal.returns-then-end-le-MAX_LEN
returns-then-end-le-MAX_LEN c = front_found _ _ (sym c.in_ok-end.ensures) c.if-end-le-MAX_LEN.true

pub returns-else-end-le-MAX_LEN : goal.returns-else-end-le-MAX_LEN
returns-else-end-le-MAX_LEN c = front_too_long _ _ (sym c.in_ok-end.ensures) c.if-end-le-MAX_LEN.false
