use Rattle.std.proofs.Common.{arith}
use Rattle.std.proofs.lemmas.Result.{err_from_is_err_and}
use Rattle.dns_audit.proofs.TimesLemmas.{more_links, stop_times, end_times}
use Rattle.dns_audit.proofs.chains.links_of.Goals as goal

pub returns-in_err-link : goal.returns-in_err-link
returns-in_err-link c =
    let p = err_from_is_err_and c.from_residual.result c.from_residual.ensures.1 in
    rw (p.1, p.2)
    (stop_times _ _ c.links.left c.links.here _ c.in_err-link.field-0.0 (omega arith) c.links.invariant
    c.in_err-link.ensures)

pub links-preserved : goal.links-preserved
links-preserved c =
    rw c.in_ok-push.ensures.items
    (more_links c.links.all.items c.in_ok-link.link c.links.left c.links.here c.in_ok-link.after _ (omega arith)
    c.links.invariant c.in_ok-link.ensures)

pub returns : goal.returns
returns c = end_times _ _ c.links.left c.links.here _ (omega arith) c.links.invariant
