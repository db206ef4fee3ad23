use Rattle.std.proofs.Common.{refl}
use Rattle.dns_tcp.proofs.CarryLemmas.{has_cause}
use Rattle.dns_shared_upstream.proofs.shared_upstream.SharedUpstreamDnsHandle.send.Goals as goal

pub returns-clause-sent : goal.returns-clause-sent
returns-clause-sent g c = record {
  request = c.args.request;
  moment = c.milliseconds-now_ms.result;
  asks = refl;
  asked = c.ask-reply.ensures;
}

pub returns-clause-requested : goal.returns-clause-requested
returns-clause-requested g c = rw (← c.milliseconds-now_ms.ensures) c.ask-reply.ensures

pub returns-clause-cause : goal.returns-clause-cause
returns-clause-cause g c = has_cause _ _ _ c.faults_after-self.ensures
