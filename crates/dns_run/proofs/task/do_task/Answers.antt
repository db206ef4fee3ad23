use Rattle.dns_run.proofs.TaskLemmas.{task_faults, task_forms}
use Rattle.dns_run.proofs.task.do_task.Goals as goal

pub returns-clause-fault : goal.returns-clause-fault
returns-clause-fault g c = λ plain. task_faults c.args.task _ _ _ _ plain c.read_and_done.ensures.ends

pub returns-clause-form : goal.returns-clause-form
returns-clause-form g c = task_forms c.args.task _ _ _ _ c.read_and_done.ensures.ends
