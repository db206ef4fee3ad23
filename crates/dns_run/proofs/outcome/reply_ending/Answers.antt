use Rattle.std.proofs.Common.{subst}
use Rattle.dns_handle.specs.Replies.{reply_of}
use Rattle.dns_lookup.specs.LookupAnswers.{UnlessNoMemory}
use Rattle.dns_session_lookup.specs.Causes.{AnswersSession}
use Rattle.dns_run.proofs.CauseLemmas.{report_given, fault_tested}
use Rattle.dns_run.proofs.outcome.reply_ending.Goals as goal

pub returns-in_ok-text-in-Err : goal.returns-in_ok-text-in-Err
returns-in_ok-text-in-Err c = λ how s given.
    fault_tested how s c.in-Err.error c.is_no_memory.result _ c.is_no_memory.ensures c.if-is_no_memory.false
    (subst (λ r. UnlessNoMemory r (AnswersSession how s (reply_of r))) c.in-Err.is given) c.in_ok-text-in-Err.ensures

pub returns-in_ok-text-in-Ok : goal.returns-in_ok-text-in-Ok
returns-in_ok-text-in-Ok c = λ how s given.
    report_given how _ s c.in-Ok.answer _
    (subst (λ r. UnlessNoMemory r (AnswersSession how s (reply_of r))) c.in-Ok.is given)
    c.in_ok-text-in-Ok.ensures.text c.in_ok-text-in-Ok.ensures.fits c.in_ok-text-in-Ok.ensures.tells
