use Rattle.std.proofs.Common.{rules, ◌≡◌, false, sym, ap, ◌∙◌}
use Rattle.dns_rules.specs.DerivationParts.{is_seen}
use Rattle.dns_trail.specs.StepContexts.{step_context_by}
use Rattle.dns_trail.proofs.StepLemmas.{seen_ends}
use Rattle.dns_trail.proofs.steps.end_told.Goals as goal

pub returns-then-not-step : goal.returns-then-not-step
returns-then-not-step g c =
    let gr = step_context_by g.V.Verifier.answers c.args.context.now in
    let unjudged : c.step.inside.judged ≡ false = search rules in
    c.end_bare.ensures
    ∙ seen_ends gr c.args.step.now c.is_seen.result c.args.told.now.0
    (c.is_seen.ensures ∙ ap (λ s. is_seen s.ending) c.step.view_is) c.requires.told
    (sym (ap (λ s. s.judged) c.step.view_is) ∙ unjudged)
