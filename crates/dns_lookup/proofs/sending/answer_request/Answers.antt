use Rattle.std.proofs.Common.{refl, sym, ◌∙◌}
use Rattle.std.proofs.lemmas.Result.{err_from_is_err_and}
use Rattle.dns_lookup.proofs.SendLemmas.{sending_made, caused}
use Rattle.dns_lookup.proofs.SendingLemmas.{other_code, goes_on, refuses, forgets, looks_up}
use Rattle.dns_lookup.proofs.sending.answer_request.Goals as goal

pub returns-then-not-is_query-clause-answers : goal.returns-then-not-is_query-clause-answers
returns-then-not-is_query-clause-answers g c =
    goes_on g.H.DnsHandle _ _ _ _ _ _ _ _ c.send.result (other_code _ _ c.is_query.ensures c.if-not-is_query.true)
    (sending_made g.H.DnsHandle _ _ _ _ _ _ refl c.send.ensures.sent c.send.ensures.requested c.send.ensures.reply
    c.send.ensures.told
    c.send.ensures.later (caused _ _ c.send.result c.send.ensures.cause))
    (record { same = refl; still = refl })

pub returns-in_err-query-clause-answers : goal.returns-in_err-query-clause-answers
returns-in_err-query-clause-answers g c =
    let p = err_from_is_err_and c.from_residual.result c.from_residual.ensures.1 in
    rw (p.1, p.2) (forgets g.H.DnsHandle _ _ _ _ _ (g.C.ValidationCache.told c.args.cache.now)
    (g.C.ValidationCache.hits c.args.cache.now) _ _ c.is_query.ensures c.if-not-is_query.false
    c.in_err-query.ensures.err)

pub returns-in_default-clause-answers : goal.returns-in_default-clause-answers
returns-in_default-clause-answers g c =
    refuses g.H.DnsHandle _ _ _ _ _ _ _ _ c.is_query.ensures c.if-not-is_query.false
    (sym c.in_ok-query.ensures.first ∙ c.in_default.is)
    (record { same = refl; still = refl })

pub returns-clause-answers : goal.returns-clause-answers
returns-clause-answers g c =
    looks_up g.H.DnsHandle _ c.args.request c.args.bounds.iterations c.args.bounds.ranges _ _ _ _ c.in-Some.query _
    c.look_up_by_request.result c.is_query.ensures c.if-not-is_query.false
    (sym c.in_ok-query.ensures.first ∙ c.in-Some.is) c.look_up_by_request.ensures.front c.look_up_by_request.ensures.sends
    c.look_up_by_request.ensures.lookup
    c.look_up_by_request.ensures.cached
