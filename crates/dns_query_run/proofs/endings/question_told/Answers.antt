use Rattle.std.proofs.Common.{subst}
use Rattle.std.proofs.lemmas.Result.{IfOk-weaker}
use Rattle.std.specs.Option.{option_copied}
use Rattle.dns_query_run.specs.Calls.{Unnamed, Untrusting}
use Rattle.dns_query_run.specs.Files.{HasNoServer}
use Rattle.dns_query_run.proofs.endings.question_told.Goals as goal

pub returns-in-Err-clause-tells : goal.returns-in-Err-clause-tells
returns-in-Err-clause-tells g c =
    let stop = c.in-Err.stop in
    IfOk-weaker c.server_told.result _ _
    (λ told silent. Unnamed stop
    (subst (λ a. HasNoServer stop a.server (option_copied c.args.files.resolver)) c.arguments.view_is
    c.in-Err.ensures.none)
    silent)
    c.server_told.ensures.tells

pub returns-in-Err-anchor_lines-clause-tells : goal.returns-in-Err-anchor_lines-clause-tells
returns-in-Err-anchor_lines-clause-tells g c =
    IfOk-weaker c.lines_told.result _ _
    (λ told unread. Untrusting c.in-Err-anchor_lines.stop c.in-Err-anchor_lines.ensures.none unread)
    c.lines_told.ensures.tells
