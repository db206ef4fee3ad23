use Rattle.std.proofs.Common.{Ok, ap}
use Rattle.std.proofs.lemmas.List.Elements.{All-push}
use Rattle.std.proofs.lemmas.Result.{err_from_is_err_and}
use Rattle.dns_tcp.specs.Frames.{HasFrame}
use Rattle.dns_tcp.proofs.SureLemmas.{no_frames_told, no_law, none_whole, row_more, row_read, row_shorter}
use Rattle.dns_tcp.proofs.frame_law.unframe.Goals as goal

pub returns-in_err-message-clause-err : goal.returns-in_err-message-clause-err
returns-in_err-message-clause-err c =
    let p = err_from_is_err_and c.from_residual-in_err-message.result c.from_residual-in_err-message.ensures.1 in
    rw (p.1, p.2) (no_frames_told _ _ _ _ c.row.invariant.0 c.in_err-message.ensures.err)

pub returns-in_err-message-clause-law : goal.returns-in_err-message-clause-law
returns-in_err-message-clause-law c = λ messages are.
    let p = err_from_is_err_and c.from_residual-in_err-message.result c.from_residual-in_err-message.ensures.1 in
    rw (p.1, p.2) (no_law _ _ _ _ _ c.row.invariant.0 are c.in_err-message.ensures.err)

pub row-smaller : goal.row-smaller
row-smaller c =
    let next = rw c.in-Some.is at c.in_ok-message.ensures.next in
    row_shorter _ _ _ next.1 next.0

pub row-preserved : goal.row-preserved
row-preserved c =
    let next = rw c.in-Some.is at c.in_ok-message.ensures.next in
    rw c.in_ok-push.ensures.items (row_more _ _ _ _ _ c.row.invariant.0 next.0, All-push HasFrame _ _ c.row.invariant.1 next.1, next.2)

pub returns-clause-law : goal.returns-clause-law
returns-clause-law c = λ messages are.
    let end = rw c.in_default.is at c.in_ok-message.ensures.next in
    ap Ok (row_read _ _ _ are (none_whole _ _ _ c.row.invariant.0 end c.row.invariant.1))
