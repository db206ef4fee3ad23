use Rattle.std.proofs.Common.{refl}
use Rattle.dns_handle.specs.Requests.{first_question}
use Rattle.dns_handle.specs.Replies.{reply_of}
use Rattle.dns_retry.specs.Retries.{SendsRequest}
use Rattle.dns_retry.proofs.RetryLemmas.{retried_known}
use Rattle.dns_retry.proofs.retry_handle.RetryDnsHandleDnsHandle.send.Goals as goal

pub returns-clause-sent : goal.returns-clause-sent
returns-clause-sent g c = record {
  retried = retried_known (SendsRequest g.H.DnsHandle c.args.request c.args.now)
      (λ a r b. g.H.DnsHandle.sent a (first_question c.args.request) b r)
      (λ a r b sent. sent.0) c.args.self.now.attempts c.args.self.now.handle c.send_again-reply.new.handle
      (reply_of c.send_again-reply.result) c.send_again-reply.ensures.retried;
  counted = record {
    sends = c.saturating_add-self.ensures;
    faults = c.faults_after-self.ensures;
    attempts = refl;
  };
}
