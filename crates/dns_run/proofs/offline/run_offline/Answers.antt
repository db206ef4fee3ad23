use Rattle.std.proofs.Common.{◌∙◌, Some, ap, sym, rules}
use Rattle.dns_run.proofs.RunLemmas.{validation_ends, task_ends, bench_ends, help_ends, version_ends, no_ends}
use Rattle.dns_run.proofs.offline.run_offline.Goals as goal

pub returns-in-Some-Validate-clause-ends : goal.returns-in-Some-Validate-clause-ends
returns-in-Some-Validate-clause-ends g c =
    validation_ends _ _ _ _ _ _ _
    (sym c.form_of.ensures.value ∙ c.in-Some-Validate.is ∙ ap Some c.in-Some-Validate.field-0-is)
    (record {
      report = c.validate.ensures.derived;
      fault = c.validate.ensures.fault;
      form = c.validate.ensures.form;
      grammar = c.validate.ensures.grammar;
    })
    c.validate.ensures.prefix

pub returns-in-Some-Task-clause-ends : goal.returns-in-Some-Task-clause-ends
returns-in-Some-Task-clause-ends g c =
    task_ends _ _ _ _ _ _ (sym c.form_of.ensures.value ∙ c.in-Some-Task.is ∙ ap Some c.in-Some-Task.field-0-is)
    c.do_task.ensures.ends c.do_task.ensures.fault c.do_task.ensures.form

pub returns-in-Some-Bench-clause-ends : goal.returns-in-Some-Bench-clause-ends
returns-in-Some-Bench-clause-ends g c =
    bench_ends _ _ _ _ _ _ (sym c.form_of.ensures.value ∙ c.in-Some-Bench.is ∙ ap Some c.in-Some-Bench.field-0-is)
    c.write_bench.ensures.ends c.write_bench.ensures.fault

pub returns-in-Some-Help-clause-ends : goal.returns-in-Some-Help-clause-ends
returns-in-Some-Help-clause-ends g c =
    help_ends _ _ _ _ _ (sym c.form_of.ensures.value ∙ c.in-Some-Help.is ∙ ap Some c.in-Some-Help.field-0-is)
    (search rules)

pub returns-in-Some-Version-clause-ends : goal.returns-in-Some-Version-clause-ends
returns-in-Some-Version-clause-ends g c =
    version_ends _ _ _ _ _ (sym c.form_of.ensures.value ∙ c.in-Some-Version.is ∙ ap Some c.in-Some-Version.field-0-is)
    (search rules)

pub returns-in-None-clause-ends : goal.returns-in-None-clause-ends
returns-in-None-clause-ends g c =
    no_ends _ _ _ _ _ (sym c.form_of.ensures.value ∙ c.in-None.is) c.refuse_words.ensures.text
