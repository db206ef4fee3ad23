use Rattle.dns_run.proofs.TaskLemmas.{fault_ends}
use Rattle.dns_run.proofs.fault.fault_ending.Goals as goal

pub returns-clause-ends : goal.returns-clause-ends
returns-clause-ends c = λ s given.
    fault_ends s c.args.error.now c.is_no_memory.result _ c.is_no_memory.ensures c.if-is_no_memory.false given
    c.in_ok-text.ensures
