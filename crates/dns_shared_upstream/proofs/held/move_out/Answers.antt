use Rattle.std.proofs.Common.{refl, ◌∙◌, arith}
use Rattle.std.proofs.lemmas.Result.{err_from_is_err_and}
use Rattle.dns_shared_upstream.proofs.StepLemmas.{fails_no_memory, passed_itself, passed_on}
use Rattle.dns_shared_upstream.proofs.held.move_out.Goals as goal

pub message-init : goal.message-init
message-init g c = record { passed = passed_itself _; failures = refl; peer = refl; handle = refl }

pub message-preserved : goal.message-preserved
message-preserved g c = record {
  passed = passed_on 0 0 0 _ _ _ (omega arith) c.message.invariant.passed c.pop.ensures;
  failures = c.in_ok-put.ensures.failures ∙ c.message.invariant.failures;
  peer = c.in_ok-put.ensures.peer ∙ c.message.invariant.peer;
  handle = c.in_ok-put.ensures.handle ∙ c.message.invariant.handle;
}

pub returns-in_default-clause-went : goal.returns-in_default-clause-went
returns-in_default-clause-went g c = passed_on 0 0 0 _ _ _ (omega arith) c.message.invariant.passed c.pop.ensures

pub returns-in_err-put-clause-went : goal.returns-in_err-put-clause-went
returns-in_err-put-clause-went g c =
    let p = err_from_is_err_and c.from_residual.result c.from_residual.ensures.1 in
    rw (p.1, p.2, c.in_err-put.ensures.error)
    (fails_no_memory 0 _ _ (passed_on 0 0 0 _ _ _ (omega arith) c.message.invariant.passed c.pop.ensures))
