use Rattle.std.proofs.Common.{◌∙◌, ap, sym, Some, rules}
use Rattle.dns_run.proofs.RunLemmas.{ask_ends, over_ends, none_over}
use Rattle.dns_run.proofs.program.run_seeded.Goals as goal

pub returns-in-Some-Ask-clause-ends : goal.returns-in-Some-Ask-clause-ends
returns-in-Some-Ask-clause-ends g c =
    ask_ends _ _ _ _ _ _ _ _ _ (sym c.form_of.ensures.value ∙ c.in-Some-Ask.is ∙ ap Some c.in-Some-Ask.field-0-is)
    c.ask-status.ensures.form

pub returns-in-Some-Ask-clause-over : goal.returns-in-Some-Ask-clause-over
returns-in-Some-Ask-clause-over g c =
    over_ends _ _ _ _ _ _ _ _ _ _ _ _ _
    (sym c.form_of.ensures.value ∙ c.in-Some-Ask.is ∙ ap Some c.in-Some-Ask.field-0-is) c.ask-status.ensures.ends

pub returns-in_default-clause-over : goal.returns-in_default-clause-over
returns-in_default-clause-over g c = none_over _ _ _ _ _ _ _ _ (search rules)
