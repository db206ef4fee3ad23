use Rattle.dns_session.proofs.PieceLemmas.{nothing_is}
use Rattle.dns_session.proofs.lines.Lines.is_ended.Goals as goal

pub returns : goal.returns
returns c = rw (← c.self.view_is, c.is_empty.ensures) (nothing_is 10 _)
