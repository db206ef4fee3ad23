use Rattle.std.proofs.Common.{sym}
use Rattle.dns_session.proofs.PieceLemmas.{next_some}
use Rattle.dns_session.proofs.lines.Lines.next.Goals as goal

pub returns-clause-next : goal.returns-clause-next
returns-clause-next c =
    rw (← c.self.view_is)
    (sym (next_some _ 10 c.self.inside.rest.now c.in_ok-line.line.now c.in_ok-line.rest.now c.in_ok-line.ensures.cut))
