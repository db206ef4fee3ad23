use Rattle.std.proofs.Common.{◌∙◌, ap, subst}
use Rattle.dns_query_run.specs.Saving.{AreSavedOf}
use Rattle.dns_query_run.proofs.SessionLemmas.{kept_session, lookup_is, no_session}
use Rattle.dns_query_run.proofs.saving.saved_session.Goals as goal

pub returns-clause-session : goal.returns-clause-session
returns-clause-session c =
    kept_session c.args.call.now c.args.looked.now c.in_ok-replies.replies.items _ c.new-verifier.result (λ v. v.items)
    c.save_lookup.result
    (subst (λ n. AreSavedOf n c.in_ok-replies.replies.items)
    (c.deref.ensures.value ∙ ap (λ l. l.notes) c.looked.view_is) c.in_ok-replies.ensures.ok)
    (lookup_is c.args.call.now _ c.args.looked.now _ _ _ _ c.call.view_is c.looked.view_is c.keys_in.ensures
    c.deref-2.ensures.value)
    c.new-verifier.ensures c.save_lookup.ensures.text c.save_lookup.ensures.reads c.save_lookup.ensures.fits
    c.save_lookup.ensures.answers

pub returns-clause-none : goal.returns-clause-none
returns-clause-none c =
    no_session c.args.call.now c.args.looked.now c.in_ok-replies.replies.items _ c.new-verifier.result
    c.save_lookup.result
    (subst (λ n. AreSavedOf n c.in_ok-replies.replies.items)
    (c.deref.ensures.value ∙ ap (λ l. l.notes) c.looked.view_is) c.in_ok-replies.ensures.ok)
    (lookup_is c.args.call.now _ c.args.looked.now _ _ _ _ c.call.view_is c.looked.view_is c.keys_in.ensures
    c.deref-2.ensures.value)
    c.new-verifier.ensures c.save_lookup.ensures.unsaved
