use Rattle.std.proofs.Common.{rules, ◌≡◌, Some, ap, ◌∙◌}
use Rattle.dns_model.specs.SoundAnswers.{told_by}
use Rattle.dns_rules.specs.DerivationParts.{is_foreign}
use Rattle.dns_rules.specs.Outcome.{foreign_record}
use Rattle.dns_trail.specs.StepContexts.{step_context_by}
use Rattle.dns_trail.proofs.StepLemmas.{foreign_ends}
use Rattle.dns_trail.proofs.steps.end_judged.Goals as goal

pub returns-in-Some : goal.returns-in-Some
returns-in-Some g c =
    let gr = step_context_by g.V.Verifier.answers c.args.context.now in
    let found : Some c.in-Some.found.now ≡ foreign_record c.args.step.now.query (told_by c.args.message.now) =
    search rules in
    c.end_bare.ensures
    ∙ foreign_ends gr c.args.step.now (told_by c.args.message.now) c.is_foreign.result c.in-Some.found.now _
    (c.is_foreign.ensures ∙ ap (λ s. is_foreign c.in-Some.found.now s.ending) c.step.view_is) found
