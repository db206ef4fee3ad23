use Rattle.std.proofs.Common.{◌++◌, map, refl, sym, ap, ◌∙◌}
use Rattle.std.specs.List.{flat_map, list_all}
use Rattle.dns_record.proofs.Copies.{copied_all}
use Rattle.dns_report.specs.TrailLines.{told_line}
use Rattle.dns_report.specs.TrailView.{unmarked, fitting_told}
use Rattle.dns_report.proofs.TurnLemmas.{fits_more, lines_more, said_more}
use Rattle.dns_report.proofs.trail.push_told_section.Goals as goal

pub loop-next-preserved : goal.loop-next-preserved
loop-next-preserved c =
    let x = c.next-item.result in
    let more = said_more unmarked c.args.records.now c.loop-next.next-index x c.loop-next-test.true c.next-item.is in (
      lines_more (told_line c.args.section) _ _ _ c.args.into.now.items _ _ more
          c.loop-next.invariant.0 c.in_ok-push_told_record.ensures.ok,
      fits_more fitting_told _ _ _ more c.loop-next.invariant.1 c.in_ok-push_told_record.ensures.fits,
    )

pub returns-clause-ok : goal.returns-clause-ok
returns-clause-ok c =
    c.loop-next.invariant.0
    ∙ ap (λ l. c.args.into.now.items ++ flat_map (told_line c.args.section) (map unmarked l))
    (copied_all _ _ _ refl c.loop-next-test.false)

pub returns-clause-fits : goal.returns-clause-fits
returns-clause-fits c =
    ap (λ l. list_all fitting_told (map unmarked l)) (sym (copied_all _ _ _ refl c.loop-next-test.false))
    ∙ c.loop-next.invariant.1
