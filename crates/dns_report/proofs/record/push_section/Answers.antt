use Rattle.std.proofs.Common.{◌++◌, refl, sym, ap, ◌∙◌}
use Rattle.std.specs.List.{flat_map, list_all}
use Rattle.dns_record.proofs.Copies.{copied_all}
use Rattle.dns_report.specs.Report.{record_line}
use Rattle.dns_report.specs.View.{fitting_record}
use Rattle.dns_report.proofs.TurnLemmas.{fits_more, lines_more, seen_more}
use Rattle.dns_report.proofs.record.push_section.Goals as goal

pub loop-next-preserved : goal.loop-next-preserved
loop-next-preserved c =
    let x = c.next-item.result in
    let more = seen_more c.args.records.now c.loop-next.next-index x c.loop-next-test.true c.next-item.is in (
      lines_more (record_line c.args.section) _ _ _ c.args.into.now.items _ _ more
          c.loop-next.invariant.0 c.in_ok-push_record.ensures.ok,
      fits_more fitting_record _ _ _ more c.loop-next.invariant.1 c.in_ok-push_record.ensures.fits,
    )

pub returns-clause-ok : goal.returns-clause-ok
returns-clause-ok c =
    c.loop-next.invariant.0
    ∙ ap (λ l. c.args.into.now.items ++ flat_map (record_line c.args.section) l)
    (copied_all _ _ _ refl c.loop-next-test.false)

pub returns-clause-fits : goal.returns-clause-fits
returns-clause-fits c =
    ap (λ l. list_all fitting_record l) (sym (copied_all _ _ _ refl c.loop-next-test.false))
    ∙ c.loop-next.invariant.1
