use Rattle.std.proofs.Common.{subst}
use Rattle.dns_handle.specs.Replies.{reply_of}
use Rattle.dns_lookup.specs.LookupAnswers.{UnlessNoMemory}
use Rattle.dns_session_lookup.specs.Causes.{AnswersSession}
use Rattle.dns_session_lookup.specs.declared.verification.Verification.TheVariants.{ByList}
use Rattle.dns_saved_lookup.proofs.RememberedLemmas.{fact_tested}
use Rattle.dns_saved_lookup.proofs.saving.remembered.Goals as goal

pub returns-else-is_no_memory : goal.returns-else-is_no_memory
returns-else-is_no_memory c = λ s given.
    fact_tested _ c.in-Err.error c.is_no_memory.result c.is_no_memory.ensures c.if-is_no_memory.false
    (subst (λ r. UnlessNoMemory r (AnswersSession ByList s (reply_of r))) c.in-Err.is given)
