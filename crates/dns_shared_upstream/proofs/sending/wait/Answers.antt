use Rattle.std.proofs.Common.{sym, arith}
use Rattle.std.proofs.lemmas.Bool.Decides.{nat_tests}
use Rattle.std.proofs.lemmas.Result.{err_from_is_err_and}
use Rattle.dns_shared_upstream.proofs.StepLemmas.{passed_itself, passed_on, took_none, waits_stopped, waits_unanswered}
use Rattle.dns_shared_upstream.proofs.sending.wait.Goals as goal

pub round-init : goal.round-init
round-init g c = record { passed = passed_itself _; most = omega arith }

pub returns-in_err-reply : goal.returns-in_err-reply
returns-in_err-reply g c =
    let p = err_from_is_err_and c.from_residual.result c.from_residual.ensures.1 in
    rw (p.1, p.2) (waits_stopped _ _ _ _ _ _ c.round.invariant.passed c.in_err-reply.ensures)

pub returns-in-Some-2 : goal.returns-in-Some-2
returns-in-Some-2 g c =
    waits_stopped _ _ _ _ _ _ c.round.invariant.passed (rw c.in-Some-2.is at c.in_ok-reply.ensures)

pub returns-then-messages-eq-MOST_MESSAGES : goal.returns-then-messages-eq-MOST_MESSAGES
returns-then-messages-eq-MOST_MESSAGES g c =
    let is = c.if-messages-eq-MOST_MESSAGES.true in
    waits_unanswered c.round.messages _ _ _ _ c.round.invariant.passed (rw c.in_default.is at c.in_ok-reply.ensures)
    (grind (arith, nat_tests, is))

pub returns-in_err-progress : goal.returns-in_err-progress
returns-in_err-progress g c =
    let p = err_from_is_err_and c.from_residual-in_err-progress.result c.from_residual-in_err-progress.ensures.1 in
    rw (p.1, p.2) (waits_stopped _ _ _ _ _ _
    (passed_on c.round.messages 0 c.round.messages _ _ _ (omega arith) c.round.invariant.passed
    (took_none _ _ _ (rw c.in_default.is at c.in_ok-reply.ensures)))
    c.in_err-progress.ensures)

pub returns-in-Answered : goal.returns-in-Answered
returns-in-Answered g c =
    waits_stopped _ _ _ _ _ _
    (passed_on c.round.messages 0 c.round.messages _ _ _ (omega arith) c.round.invariant.passed
    (took_none _ _ _ (rw c.in_default.is at c.in_ok-reply.ensures)))
    (rw c.in-Answered.is at c.in_ok-progress.ensures)

pub round-preserved : goal.round-preserved
round-preserved g c = record {
  passed = passed_on _ _ _ _ _ _ (sym c.counted-messages.ensures.counted)
      (passed_on c.round.messages 0 c.round.messages _ _ _ (omega arith) c.round.invariant.passed
      (took_none _ _ _ (rw c.in_default.is at c.in_ok-reply.ensures)))
      (rw c.in-Read.is at c.in_ok-progress.ensures);
  most = c.counted-messages.ensures.most;
}
