use Rattle.std.proofs.lemmas.Result.{IfOk-weaker}
use Rattle.dns_run.proofs.TaskLemmas.{bare_fault}
use Rattle.dns_run.proofs.questions.failed.Goals as goal

pub returns-clause-ends : goal.returns-clause-ends
returns-clause-ends c = λ s given.
    IfOk-weaker c.fault_ending.result _ _ (λ x. bare_fault s c.args.error.now x.0 x.1.items c.requires)
    (c.fault_ending.ensures.ends s given)
