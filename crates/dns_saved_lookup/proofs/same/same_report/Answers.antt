use Rattle.std.proofs.Common.{◌≡◌, ap, sym, ◌∙◌}
use Rattle.dns_report.specs.Report.{report_text, view_text}
use Rattle.dns_saved_lookup.specs.Alike.{shown}
use Rattle.dns_saved_lookup.proofs.same.same_report.Goals as goal

pub returns : goal.returns
unfolding report_text
returns c =
    let one : c.deref.result.now ≡ view_text (shown c.args.one.now) = c.deref.ensures.value ∙ c.in_ok-first.ensures.text in
    let other : c.deref-2.result.now ≡ view_text (shown c.args.other.now) =
    c.deref-2.ensures.value ∙ c.in_ok-second.ensures.text in (
      λ same. c.in_ok-second.ensures.tells (shown c.args.one.now) c.in_ok-first.ensures.fits
          (sym one ∙ c.same_text.ensures.0 same ∙ c.deref-2.ensures.value),
      λ alike. c.same_text.ensures.1 (one ∙ ap view_text alike ∙ sym other),
    )
