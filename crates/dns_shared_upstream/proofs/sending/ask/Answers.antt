use Rattle.std.proofs.lemmas.Result.{err_from_is_err_and}
use Rattle.dns_shared_upstream.proofs.StepLemmas.{asked_lost, asked_sent}
use Rattle.dns_shared_upstream.proofs.sending.ask.Goals as goal

pub returns-in_err-number : goal.returns-in_err-number
returns-in_err-number g c =
    let p = err_from_is_err_and c.from_residual.result c.from_residual.ensures.1 in
    rw (p.1, p.2) c.in_err-number.ensures.refused

pub returns-in_err-cancel : goal.returns-in_err-cancel
returns-in_err-cancel g c =
    let p = err_from_is_err_and c.from_residual-in_err-cancel.result c.from_residual-in_err-cancel.ensures.1 in
    rw (p.1, p.2)
    (asked_lost _ _ _ _ _ _ _ c.in_ok-number.ensures.sent _ c.wait-reply.ensures c.in_err-cancel.ensures)

pub returns : goal.returns
returns g c = asked_sent _ _ _ _ _ _ _ c.in_ok-number.ensures.sent _ c.wait-reply.ensures c.in_ok-cancel.ensures
