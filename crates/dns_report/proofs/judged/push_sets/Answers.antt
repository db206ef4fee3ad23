use Rattle.std.proofs.Common.{◌++◌, refl, sym, ap, ◌∙◌}
use Rattle.std.specs.List.{flat_map, list_all}
use Rattle.dns_record.proofs.Copies.{copied_all}
use Rattle.dns_report.specs.TrailLines.{set_line}
use Rattle.dns_report.specs.TrailView.{fitting_set}
use Rattle.dns_report.proofs.TurnLemmas.{fits_more, lines_more, seen_more}
use Rattle.dns_report.proofs.judged.push_sets.Goals as goal

pub loop-set-preserved : goal.loop-set-preserved
loop-set-preserved c =
    let x = c.set-item.result in
    let more = seen_more c.args.sets.now c.loop-set.set-index x c.loop-set-test.true c.set-item.is in (
      lines_more set_line _ _ _ c.args.into.now.items _ _ more
          c.loop-set.invariant.0 c.in_ok-push_set.ensures.ok,
      fits_more fitting_set _ _ _ more c.loop-set.invariant.1 c.in_ok-push_set.ensures.fits,
    )

pub returns-clause-ok : goal.returns-clause-ok
returns-clause-ok c =
    c.loop-set.invariant.0
    ∙ ap (λ l. c.args.into.now.items ++ flat_map set_line l)
    (copied_all _ _ _ refl c.loop-set-test.false)

pub returns-clause-fits : goal.returns-clause-fits
returns-clause-fits c =
    ap (λ l. list_all fitting_set l) (sym (copied_all _ _ _ refl c.loop-set-test.false))
    ∙ c.loop-set.invariant.1
