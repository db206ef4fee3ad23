use Rattle.std.proofs.Common.{◌≡◌, ◌++◌, ap, ◌∙◌}
use Rattle.dns_report.specs.View.{view_of}
use Rattle.dns_report.specs.Report.{view_text, view_body, report_text}
use Rattle.dns_report.specs.WrittenLines.{report_end}
use Rattle.dns_report.proofs.ReportLaw.{text_tells_view}
use Rattle.dns_report.proofs.ChainLaw.{view_tells_chains}
use Rattle.dns_report.proofs.report.write_report.Goals as goal

pub returns-clause-tells : goal.returns-clause-tells
unfolding view_text
returns-clause-tells c =
    let written : c.push_text.new.into.items ≡ view_text (view_of c.args.parts c.args.answer.now) =
    c.in_ok-push_text.ensures.ok
    ∙ ap (λ t. t ++ report_end)
    (c.in_ok-push_body.ensures.ok ∙ ap (λ t. t ++ view_body (view_of c.args.parts c.args.answer.now)) c.new-text.ensures.items) in
    λ other fits same. text_tells_view other (view_of c.args.parts c.args.answer.now) fits c.in_ok-push_body.ensures.fits (same ∙ written)

pub returns-clause-chains : goal.returns-clause-chains
unfolding view_text report_text
returns-clause-chains c =
    let written : c.push_text.new.into.items ≡ view_text (view_of c.args.parts c.args.answer.now) =
    c.in_ok-push_text.ensures.ok
    ∙ ap (λ t. t ++ report_end)
    (c.in_ok-push_body.ensures.ok ∙ ap (λ t. t ++ view_body (view_of c.args.parts c.args.answer.now)) c.new-text.ensures.items) in
    λ other j k fits same theirs mine. view_tells_chains j k c.args.parts other c.args.answer.now theirs mine
    (text_tells_view (view_of c.args.parts other) (view_of c.args.parts c.args.answer.now) fits c.in_ok-push_body.ensures.fits
    (same ∙ written))
