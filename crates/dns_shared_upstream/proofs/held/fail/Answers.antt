use Rattle.std.proofs.Common.{sym, ◌∙◌}
use Rattle.dns_shared_upstream.proofs.StepLemmas.{closed_fails, fails_no_memory, passed_itself}
use Rattle.dns_shared_upstream.proofs.StreamLemmas.{fault_is, no_fault_is}
use Rattle.dns_shared_upstream.proofs.held.fail.Goals as goal

pub returns-in_default-clause-failed : goal.returns-in_default-clause-failed
returns-in_default-clause-failed g c =
    let is = no_fault_is c.args.error c.requires (sym c.fault_of.ensures ∙ c.in_default.is) in
    rw is (fails_no_memory 0 _ _ (passed_itself _))

pub returns-in-Ok-clause-failed : goal.returns-in-Ok-clause-failed
returns-in-Ok-clause-failed g c =
    closed_fails c.in-Some.fault _ _ c.args.error c.in-Ok.ensures.closed
    (fault_is c.args.error c.in-Some.fault c.requires (sym c.fault_of.ensures ∙ c.in-Some.is))

pub returns-in-Err-clause-failed : goal.returns-in-Err-clause-failed
returns-in-Err-clause-failed g c = fails_no_memory 0 _ _ c.in-Err.ensures.closed
