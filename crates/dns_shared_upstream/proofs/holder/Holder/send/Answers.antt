use Rattle.std.proofs.Common.{refl}
use Rattle.std.proofs.lemmas.Result.{err_from_is_err_and}
use Rattle.dns_shared_upstream.proofs.StepLemmas.{sent_refused, sent_turn}
use Rattle.dns_shared_upstream.proofs.holder.Holder.send.Goals as goal

pub returns-in_err-id-clause-refused : goal.returns-in_err-id-clause-refused
returns-in_err-id-clause-refused g c =
    let p = err_from_is_err_and c.from_residual.result c.from_residual.ensures.1 in
    rw (p.1, p.2)
    (sent_refused _ _ c.in_err-id.ensures.line c.in_err-id.ensures.known refl _ _ _ c.in_err-id.ensures.err)

pub returns-clause-sent : goal.returns-clause-sent
returns-clause-sent g c =
    sent_turn _ _ c.in_ok-id.ensures.line c.in_ok-id.ensures.known refl _ _ _ c.in_ok-id.ensures.ok
