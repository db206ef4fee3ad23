use Rattle.std.proofs.Common.{◌∙◌}
use Rattle.std.proofs.lemmas.Result.{err_from_is_err_and}
use Rattle.dns_shared_upstream.proofs.StreamLemmas.{drained_error, drained_failures, drained_peer}
use Rattle.dns_shared_upstream.proofs.held.drain_all.Goals as goal

pub write-preserved : goal.write-preserved
write-preserved g c = record {
  failures = drained_failures _ _ _ _ _ _ c.in_ok-drain.ensures.drained ∙ c.write.invariant.failures;
  peer = drained_peer _ _ _ _ _ _ c.in_ok-drain.ensures.drained ∙ c.write.invariant.peer;
}

pub returns-then-branch-clause-failures : goal.returns-then-branch-clause-failures
returns-then-branch-clause-failures g c =
    drained_failures _ _ _ _ _ _ c.in_ok-drain.ensures.drained ∙ c.write.invariant.failures

pub returns-then-branch-clause-peer : goal.returns-then-branch-clause-peer
returns-then-branch-clause-peer g c =
    drained_peer _ _ _ _ _ _ c.in_ok-drain.ensures.drained ∙ c.write.invariant.peer

pub returns-in_err-drain-clause-failures : goal.returns-in_err-drain-clause-failures
returns-in_err-drain-clause-failures g c =
    let p = err_from_is_err_and c.from_residual.result c.from_residual.ensures.1 in
    rw (p.1, p.2, ← c.write.invariant.failures) (drained_failures _ _ _ _ _ _ c.in_err-drain.ensures.drained)

pub returns-in_err-drain-clause-peer : goal.returns-in_err-drain-clause-peer
returns-in_err-drain-clause-peer g c =
    drained_peer _ _ _ _ _ _ c.in_err-drain.ensures.drained ∙ c.write.invariant.peer

pub returns-in_err-drain-clause-error : goal.returns-in_err-drain-clause-error
returns-in_err-drain-clause-error g c =
    let p = err_from_is_err_and c.from_residual.result c.from_residual.ensures.1 in
    rw (p.1, p.2) (drained_error _ _ _ _ _ _ c.in_err-drain.ensures.drained)
