use Rattle.std.proofs.Common.{refl}
use Rattle.dns_udp.proofs.TalkLemmas.{counted_cause}
use Rattle.dns_udp.proofs.exchange.UdpExchangeDnsHandle.send.Goals as goal

pub returns-clause-sent : goal.returns-clause-sent
returns-clause-sent g c = record {
  request = c.args.request;
  asks = refl;
  exchanged = c.exchange-reply.ensures;
}

pub returns-clause-requested : goal.returns-clause-requested
returns-clause-requested g c = c.exchange-reply.ensures

pub returns-clause-cause : goal.returns-clause-cause
returns-clause-cause g c = counted_cause _ _ _ c.faults_after-self.ensures
