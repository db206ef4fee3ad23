use Rattle.std.proofs.Common.{◌≡◌, ℕ, Ok, Err, sym}
use Rattle.dns_handle.specs.Errors as seen
use Rattle.dns_handle.specs.Errors.{ErrorValue}
use Rattle.dns_handle.specs.Replies.{error_of}
use Rattle.dns_journal.specs.Entries.{drawn_of}
use Rattle.dns_journal.proofs.SendLemmas.{sent_out, sent_played, sent_refused}
use Rattle.dns_journal.proofs.journaled_core.play_send.Goals as goal

accepted : (number : ℕ) (error : ErrorValue) → Ok number ≡ Err error → ⊥
accepted number error is = cc

pub returns-in-Ok-clause-ok : goal.returns-in-Ok-clause-ok
returns-in-Ok-clause-ok g c =
    sent_played g.R.Draws.draws_id c.args.draws.now c.begin.new.self c.send.new.draws c.take.new.self c.args.core.now
    c.send.new.self c.args.request c.args.now (drawn_of c.take.result) (Ok c.in-Ok.id.0)
    c.begin.ensures.draws c.in_ok-begin.ensures.none c.in_ok-begin.ensures.room c.in-Ok.ensures.sent
    (accepted c.in-Ok.id.0 seen.NoMemory) c.take.ensures.ids c.take.ensures.draws c.in-Ok.ensures.kept
    c.in-Ok.ensures.brought

pub returns-in-None-clause-err : goal.returns-in-None-clause-err
returns-in-None-clause-err g c =
    sent_out g.R.Draws.draws_id c.args.draws.now c.begin.new.self c.send.new.draws c.args.core.now c.send.new.self
    c.args.request c.args.now (error_of c.in-Err.error) c.begin.ensures.draws c.in-Err.ensures.sent
    (sym c.in-None.ensures)
    c.in-Err.ensures.kept c.in-Err.ensures.brought

pub returns-clause-ok : goal.returns-clause-ok
returns-clause-ok g c =
    sent_refused g.R.Draws.draws_id c.args.draws.now c.begin.new.self c.send.new.draws c.take-in-Some.new.self
    c.args.core.now
    c.send.new.self c.args.request c.args.now (drawn_of c.take-in-Some.result)
    (error_of c.in-Err.error) c.in-Some.refusal
    c.begin.ensures.draws c.in_ok-begin.ensures.none c.in_ok-begin.ensures.room c.in-Err.ensures.sent c.in-Some.ensures
    c.take-in-Some.ensures.ids c.take-in-Some.ensures.draws c.in-Err.ensures.kept c.in-Err.ensures.brought
