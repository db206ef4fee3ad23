use Rattle.std.proofs.Common.{subst}
use Rattle.std.proofs.lemmas.Result.{IfOk-weaker}
use Rattle.dns_handle.specs.Replies.{reply_of}
use Rattle.dns_lookup.specs.LookupAnswers.{UnlessNoMemory}
use Rattle.dns_session_lookup.specs.Causes.{AnswersSession}
use Rattle.dns_session_lookup.specs.declared.verification.Verification.TheVariants.{ByList}
use Rattle.dns_run.specs.Tasks.{Faulted}
use Rattle.dns_run.proofs.TaskLemmas.{denials_told}
use Rattle.dns_run.proofs.deny.reply_ending.Goals as goal

pub returns-in-Err-clause-ends : goal.returns-in-Err-clause-ends
returns-in-Err-clause-ends c = λ t at are given.
    IfOk-weaker c.fault_ending.result _ _ (λ x ends. Faulted ends.done ends.fault)
    (c.fault_ending.ensures.ends t.session
    (subst (λ r. UnlessNoMemory r (AnswersSession ByList t.session (reply_of r))) c.in-Err.is given))

pub returns-in_ok-text-in-Ok-clause-ends : goal.returns-in_ok-text-in-Ok-clause-ends
returns-in_ok-text-in-Ok-clause-ends c = λ t at are given.
    denials_told t c.in-Ok.answer c.args.moment c.args.lines.now _ at are
    (subst (λ r. UnlessNoMemory r (AnswersSession ByList t.session (reply_of r))) c.in-Ok.is given)
    c.in_ok-text-in-Ok.ensures
