use Rattle.std.proofs.Common.{subst}
use Rattle.std.proofs.lemmas.Result.{err_from_is_err_and}
use Rattle.dns_anchor_keys.proofs.AskLemmas.{none_left}
use Rattle.dns_query_run.proofs.SavingLemmas.{Continues, continues_end, continues_more, unsaid_here}
use Rattle.dns_saved_lookup.specs.declared.save_error.SaveError.TheVariants.{NoMemory}
use Rattle.dns_query_run.proofs.saving.saved_replies.Goals as goal

pub returns-in_err-reply-clause-unsaid : goal.returns-in_err-reply-clause-unsaid
returns-in_err-reply-clause-unsaid c =
    let p = err_from_is_err_and c.from_residual.result c.from_residual.ensures.1 in
    rw (p.1, p.2)
    (unsaid_here c.args.notes.now c.notes.replies.items c.in-Some.note.now c.in-Some.more.now _
    (subst (λ left. Continues c.args.notes.now c.notes.replies.items left) c.in-Some.ensures.cases.0 c.notes.invariant)
    c.in_err-reply.ensures.unsaid)

pub returns-in_err-push-clause-unsaid : goal.returns-in_err-push-clause-unsaid
returns-in_err-push-clause-unsaid c =
    let p = err_from_is_err_and c.from_residual-in_err-push.result c.from_residual-in_err-push.ensures.1 in
    rw (p.1, p.2)
    (unsaid_here c.args.notes.now c.notes.replies.items c.in-Some.note.now c.in-Some.more.now NoMemory
    (subst (λ left. Continues c.args.notes.now c.notes.replies.items left) c.in-Some.ensures.cases.0 c.notes.invariant)
    (tt {0}))

pub notes-preserved : goal.notes-preserved
notes-preserved c =
    continues_more c.args.notes.now c.notes.replies.items c.in-Some.note.now c.in-Some.more.now c.in_ok-reply.reply
    c.push.new.self.items
    (subst (λ left. Continues c.args.notes.now c.notes.replies.items left) c.in-Some.ensures.cases.0 c.notes.invariant)
    c.in_ok-reply.ensures.ok c.in_ok-push.ensures.items

pub returns-clause-ok : goal.returns-clause-ok
returns-clause-ok c =
    continues_end c.args.notes.now c.notes.replies.items
    (subst (λ left. Continues c.args.notes.now c.notes.replies.items left)
    (none_left c.notes.left.now c.in_default.ensures.cases) c.notes.invariant)
