use Rattle.std.proofs.Common.{refl}
use Rattle.std.proofs.lemmas.Result.{err_from_is_err_and}
use Rattle.dns_shared_upstream.proofs.StepLemmas.{arrival_refused, arrived}
use Rattle.dns_shared_upstream.proofs.holder.Holder.arrive.Goals as goal

pub returns-in_err-arrive-clause-went : goal.returns-in_err-arrive-clause-went
returns-in_err-arrive-clause-went g c =
    let p = err_from_is_err_and c.from_residual.result c.from_residual.ensures.1 in
    rw (p.1, p.2) (arrival_refused _ _ c.in_err-arrive.ensures.line c.in_err-arrive.ensures.known refl _ _ c.requires
    c.in_err-arrive.ensures.err)

pub returns-clause-went : goal.returns-clause-went
returns-clause-went g c =
    arrived _ _ c.in_ok-arrive.ensures.line c.in_ok-arrive.ensures.known refl _ _ c.in_ok-arrive.ensures.ok
