use Rattle.std.proofs.Common.{arith}
use Rattle.std.proofs.lemmas.Result.{err_from_is_err_and}
use Rattle.dns_shared_upstream.proofs.StepLemmas.{passed_on, stops_on, took_none}
use Rattle.dns_shared_upstream.proofs.sending.turn.Goals as goal

pub returns-in_err-reply : goal.returns-in_err-reply
returns-in_err-reply g c =
    let p = err_from_is_err_and c.from_residual.result c.from_residual.ensures.1 in
    rw (p.1, p.2) c.in_err-reply.ensures

pub returns-in-Some : goal.returns-in-Some
returns-in-Some g c = rw c.in-Some.is at c.in_ok-reply.ensures

pub returns-in_err-came : goal.returns-in_err-came
returns-in_err-came g c =
    let p = err_from_is_err_and c.from_residual-in_err-came.result c.from_residual-in_err-came.ensures.1 in
    rw (p.1, p.2)
    (stops_on 0 _ _ _ _ _ (took_none _ _ _ (rw c.in_default.is at c.in_ok-reply.ensures)) (c.in_err-came.ensures _))

pub returns : goal.returns
returns g c =
    passed_on 0 _ _ _ _ _ (omega arith) (took_none _ _ _ (rw c.in_default.is at c.in_ok-reply.ensures))
    c.in_ok-came.ensures
