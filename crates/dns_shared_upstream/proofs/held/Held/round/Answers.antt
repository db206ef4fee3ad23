use Rattle.std.proofs.Common.{arith}
use Rattle.std.proofs.lemmas.Result.{err_from_is_err_and}
use Rattle.dns_shared_upstream.specs.Rounds.{if_came}
use Rattle.dns_shared_upstream.proofs.StepLemmas.{fails_on, goes_on, passed_on}
use Rattle.dns_shared_upstream.proofs.held.Held.round.Goals as goal

pub returns-in_err-move_out : goal.returns-in_err-move_out
returns-in_err-move_out g c =
    let p = err_from_is_err_and c.from_residual.result c.from_residual.ensures.1 in
    rw (p.1, p.2) c.in_err-move_out.ensures.went

pub returns-in_err-write : goal.returns-in_err-write
returns-in_err-write g c =
    let p = err_from_is_err_and c.from_residual-in_err-write.result c.from_residual-in_err-write.ensures.1 in
    rw (p.1, p.2) (fails_on 0 _ _ _ _ c.in_ok-move_out.ensures.went c.in_err-write.ensures.went)

pub returns : goal.returns
returns g c =
    goes_on if_came _ _ _ c.read.result
    (passed_on 0 0 0 _ _ _ (omega arith) c.in_ok-move_out.ensures.went c.in_ok-write.ensures.went) c.read.ensures.went
