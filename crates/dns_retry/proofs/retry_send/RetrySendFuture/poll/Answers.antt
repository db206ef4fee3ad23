use Rattle.std.proofs.Common.{◌∙◌, sym}
use Rattle.dns_handle.specs.Replies.{reply_of}
use Rattle.dns_retry.specs.RetrySends.{state_of}
use Rattle.dns_retry.proofs.PollLemmas.{may_more, may_now}
use Rattle.dns_retry.proofs.retry_send.RetrySendFuture.poll.Goals as goal

pub returns-then-go_on_after-clause-same : goal.returns-then-go_on_after-clause-same
returns-then-go_on_after-clause-same g c = rw c.yield_now.ensures.pending (λ x may.
    may_more g.H.DnsHandle (state_of c.args.self.now) _ _ _ (reply_of c.send_copy-reply.result) (reply_of x)
    c.if-self.false c.send_copy-reply.ensures.sent
    (sym c.go_on_after.ensures.due ∙ c.if-go_on_after.true) (c.go_on_after.ensures.left c.if-go_on_after.true)
    (c.go_on_after.ensures.busy c.if-go_on_after.true) may)

pub returns-clause-value : goal.returns-clause-value
returns-clause-value g c =
    may_now g.H.DnsHandle (state_of c.args.self.now) _ (reply_of c.send_copy-reply.result)
    c.if-self.false c.send_copy-reply.ensures.sent (sym c.go_on_after.ensures.due ∙ c.if-go_on_after.false)
