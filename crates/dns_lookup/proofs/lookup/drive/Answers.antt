use Rattle.std.proofs.Common.{Err, refl, ◌∙◌}
use Rattle.std.proofs.lemmas.Result.{err_from_is_err_and}
use Rattle.dns_handle.specs.declared.error.NetError.TheVariants.{NoMemory}
use Rattle.dns_lookup.proofs.LoopLemmas.{going_begun, no_asking, asks_next, going_on, fewer_left, going_ends, failed_answered, answered_by, never_unanswered}
use Rattle.dns_lookup.proofs.SendLemmas.{sending_made, caused}
use Rattle.dns_lookup.proofs.lookup.drive.Goals as goal

pub asks-init : goal.asks-init
asks-init g c = going_begun g.H.DnsHandle _ _ _ _ c.requires.begins

pub asks-smaller : goal.asks-smaller
asks-smaller g c =
    let serves = rw c.in-Some.is at c.in_ok-asking.ensures.serves in
    let idle = rw c.in-Some.is at c.in_ok-asking.ensures.idle in
    fewer_left g.H.DnsHandle _ _ _ _ _ c.requires.asked _ _ _ _ _ _ _ _ c.asks.invariant serves
    (λ none rests. no_asking _ (idle none rests))
    (c.in_ok-asking.ensures.terms ∙ c.asks.invariant.terms) c.answer.ensures.heard

pub asks-preserved : goal.asks-preserved
asks-preserved g c =
    let serves = rw c.in-Some.is at c.in_ok-asking.ensures.serves in
    going_on g.H.DnsHandle _ _ _ _ _ _ _ _ _
    (asks_next g.H.DnsHandle _ _ _ _ _ _ _ _ _ _ c.requires.asked c.asks.invariant serves) _ _ _
    c.asks.invariant.later
    (c.in_ok-asking.ensures.terms ∙ c.asks.invariant.terms) c.answer.ensures.terms _ c.requires.moment
    (sending_made g.H.DnsHandle _ _ _ _ _ _ refl c.send-reply.ensures.sent c.send-reply.ensures.requested
    c.send-reply.ensures.reply c.send-reply.ensures.told
    c.send-reply.ensures.later (caused _ _ c.send-reply.result c.send-reply.ensures.cause))
    c.answer.ensures.heard

pub returns-in_err-asking-clause-front : goal.returns-in_err-asking-clause-front
returns-in_err-asking-clause-front g c =
    let p = err_from_is_err_and c.from_residual.result c.from_residual.ensures.1 in
    rw (p.1, p.2) (failed_answered g.H.DnsHandle _ _ _ _ _ _ _ _ _ _
    (Err NoMemory) c.asks.invariant c.in_err-asking.ensures.serves refl).front

pub returns-in_err-asking-clause-sends : goal.returns-in_err-asking-clause-sends
returns-in_err-asking-clause-sends g c =
    let p = err_from_is_err_and c.from_residual.result c.from_residual.ensures.1 in
    rw (p.1, p.2) (failed_answered g.H.DnsHandle _ _ _ _ _ _ _ _ _ _
    (Err NoMemory) c.asks.invariant c.in_err-asking.ensures.serves refl).sends

pub returns-clause-front : goal.returns-clause-front
returns-clause-front g c =
    let serves = rw c.in_default.is at c.in_ok-asking.ensures.serves in
    (answered_by g.H.DnsHandle _ _ _ _ _ _ _ _ _ (going_ends g.H.DnsHandle _ _ _ _ _ _ _ _ _ c.asks.invariant serves)
    (c.in_ok-asking.ensures.terms ∙ c.asks.invariant.terms) c.in-Some-into_answer.is c.into_answer.ensures.answer
    c.into_answer.ensures.comes).front

pub returns-clause-sends : goal.returns-clause-sends
returns-clause-sends g c =
    let serves = rw c.in_default.is at c.in_ok-asking.ensures.serves in
    (answered_by g.H.DnsHandle _ _ _ _ _ _ _ _ _ (going_ends g.H.DnsHandle _ _ _ _ _ _ _ _ _ c.asks.invariant serves)
    (c.in_ok-asking.ensures.terms ∙ c.asks.invariant.terms) c.in-Some-into_answer.is c.into_answer.ensures.answer
    c.into_answer.ensures.comes).sends

pub returns-clause-lookup : goal.returns-clause-lookup
returns-clause-lookup g c =
    let serves = rw c.in_default.is at c.in_ok-asking.ensures.serves in
    (answered_by g.H.DnsHandle _ _ _ _ _ _ _ _ _ (going_ends g.H.DnsHandle _ _ _ _ _ _ _ _ _ c.asks.invariant serves)
    (c.in_ok-asking.ensures.terms ∙ c.asks.invariant.terms) c.in-Some-into_answer.is c.into_answer.ensures.answer
    c.into_answer.ensures.comes).lookup

pub returns-clause-cached : goal.returns-clause-cached
returns-clause-cached g c =
    let serves = rw c.in_default.is at c.in_ok-asking.ensures.serves in
    (answered_by g.H.DnsHandle _ _ _ _ _ _ _ _ _ (going_ends g.H.DnsHandle _ _ _ _ _ _ _ _ _ c.asks.invariant serves)
    (c.in_ok-asking.ensures.terms ∙ c.asks.invariant.terms) c.in-Some-into_answer.is c.into_answer.ensures.answer
    c.into_answer.ensures.comes).cached

pub unreachable-requires : goal.unreachable-requires
unreachable-requires g c =
    let serves = rw c.in_default.is at c.in_ok-asking.ensures.serves in
    never_unanswered g.H.DnsHandle _ _ _ _ _ _ _ _
    (going_ends g.H.DnsHandle _ _ _ _ _ _ _ _ _ c.asks.invariant serves)
    (c.in_ok-asking.ensures.terms ∙ c.asks.invariant.terms) c.in-None.is c.into_answer.ensures.answer
    c.into_answer.ensures.ends
