use Rattle.dns_shared_upstream.proofs.StepLemmas.{closed}
use Rattle.dns_shared_upstream.proofs.holder.Holder.close.Goals as goal

pub returns-clause-closed : goal.returns-clause-closed
returns-clause-closed g c =
    closed _ _ c.close-closed.ensures.line c.close-closed.ensures.known c.add.ensures.amount _ c.close-closed.result _
    c.close-closed.ensures.ok c.close-closed.ensures.err c.passed_over.ensures
