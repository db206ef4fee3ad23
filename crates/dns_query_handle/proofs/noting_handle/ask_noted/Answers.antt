use Rattle.std.proofs.Common.{◌∙◌, ◌++◌, Err, ap}
use Rattle.std.proofs.lemmas.Result.{err_from_is_err_and}
use Rattle.dns_handle.specs.Replies.{reply_of}
use Rattle.dns_query_handle.specs.Notes.{Lost, Noted, note_of}
use Rattle.dns_query_handle.proofs.noting_handle.ask_noted.Goals as goal

pub returns-in_err-note : goal.returns-in_err-note
returns-in_err-note g c =
    let p = err_from_is_err_and c.from_residual-in_err-note.result c.from_residual-in_err-note.ensures.1 in
    Lost _ _ c.timed_send-reply.ensures c.in_err-note.ensures.err (ap reply_of (p.1 ∙ ap Err p.2))

pub returns : goal.returns
returns g c =
    Noted _ c.timed_send-reply.ensures
    (c.in_ok-note.ensures.ok
    ∙ ap (λ q. c.args.notes.now.items ++ note_of q (reply_of c.timed_send-reply.result.0) c.timed_send-reply.result.1)
    c.in_ok-query.ensures)
