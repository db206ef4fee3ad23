use Rattle.dns_session.proofs.PieceLemmas.{cut_none, cut_parts}
use Rattle.dns_session.proofs.lines.cut_at.Goals as goal

pub returns-clause-cut : goal.returns-clause-cut
returns-clause-cut c = cut_parts _ _ _ c.in_ok-at.ensures.value

pub returns-in_err-at-clause-cut : goal.returns-in_err-at-clause-cut
returns-in_err-at-clause-cut c = rw c.from_residual.ensures (cut_none _ _ c.in_err-at.ensures.value)
