use Rattle.std.proofs.Common.{◌∙◌, sym, subst}
use Rattle.dns_handle.specs.Replies.{reply_of}
use Rattle.dns_retry.specs.Retries.{SendsRequest}
use Rattle.dns_query_handle.specs.Fallbacks.{Again}
use Rattle.dns_query_handle.proofs.fallback_handle.ask_both.Goals as goal

pub returns-then-is_truncated : goal.returns-then-is_truncated
returns-then-is_truncated g c =
    Again (reply_of c.send-reply.result)
    (subst
    (λ r. SendsRequest g.U.DnsHandle r c.args.now c.args.first.now (reply_of c.send-reply.result) c.send-reply.new.self)
    c.in_ok-copy.ensures (c.send-reply.ensures.sent, c.send-reply.ensures.requested))
    (sym c.is_truncated.ensures ∙ c.if-is_truncated.true)
    (c.send.ensures.sent, c.send.ensures.requested)
