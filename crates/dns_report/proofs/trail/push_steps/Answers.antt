use Rattle.std.proofs.Common.{◌++◌, map, refl, sym, ap, ◌∙◌}
use Rattle.std.specs.List.{flat_map, list_all}
use Rattle.dns_record.proofs.Copies.{copied_all}
use Rattle.dns_report.specs.TrailLines.{step_text}
use Rattle.dns_report.specs.TrailView.{step_view, fitting_step}
use Rattle.dns_report.proofs.TurnLemmas.{fits_more, lines_more, said_more}
use Rattle.dns_report.proofs.trail.push_steps.Goals as goal

pub loop-step-preserved : goal.loop-step-preserved
loop-step-preserved c =
    let x = c.step-item.result in
    let more = said_more step_view c.args.steps.now c.loop-step.step-index x c.loop-step-test.true c.step-item.is in (
      lines_more step_text _ _ _ c.args.into.now.items _ _ more
          c.loop-step.invariant.0 c.in_ok-push_step.ensures.ok,
      fits_more fitting_step _ _ _ more c.loop-step.invariant.1 c.in_ok-push_step.ensures.fits,
    )

pub returns-clause-ok : goal.returns-clause-ok
returns-clause-ok c =
    c.loop-step.invariant.0
    ∙ ap (λ l. c.args.into.now.items ++ flat_map step_text (map step_view l))
    (copied_all _ _ _ refl c.loop-step-test.false)

pub returns-clause-fits : goal.returns-clause-fits
returns-clause-fits c =
    ap (λ l. list_all fitting_step (map step_view l)) (sym (copied_all _ _ _ refl c.loop-step-test.false))
    ∙ c.loop-step.invariant.1
