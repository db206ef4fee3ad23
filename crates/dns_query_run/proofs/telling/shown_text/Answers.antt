use Rattle.dns_query_run.proofs.ShownLemmas.{shown_is}
use Rattle.dns_query_run.proofs.telling.shown_text.Goals as goal

pub returns : goal.returns
returns c =
    shown_is c.args.switches c.args.call.now c.args.looked.now _ _ _ _ _ c.looked.view_is c.in_ok-text.ensures
    c.in_ok-push_chain_part.ensures c.deref.ensures.value c.in_ok-push_trail_part.ensures
