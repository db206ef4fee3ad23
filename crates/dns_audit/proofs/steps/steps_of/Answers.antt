use Rattle.std.proofs.Common.{arith}
use Rattle.std.proofs.lemmas.Result.{err_from_is_err_and}
use Rattle.dns_audit.proofs.TimesLemmas.{more_times, stop_times, end_times}
use Rattle.dns_audit.proofs.steps.steps_of.Goals as goal

pub returns-in_err-step : goal.returns-in_err-step
returns-in_err-step c =
    let p = err_from_is_err_and c.from_residual.result c.from_residual.ensures.1 in
    rw (p.1, p.2)
    (stop_times _ _ c.steps.left c.steps.here _ c.in_err-step.field-0.0 (omega arith) c.steps.invariant
    c.in_err-step.ensures)

pub steps-preserved : goal.steps-preserved
steps-preserved c =
    rw c.in_ok-push.ensures.items
    (more_times _ c.steps.all.items c.steps.left c.steps.here c.in_ok-step.after c.in_ok-step.step _ (omega arith)
    c.steps.invariant c.in_ok-step.ensures)

pub returns : goal.returns
returns c = end_times _ _ c.steps.left c.steps.here _ (omega arith) c.steps.invariant
