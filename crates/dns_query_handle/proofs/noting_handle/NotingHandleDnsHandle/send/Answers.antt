use Rattle.std.proofs.Common.{refl}
use Rattle.dns_query_handle.proofs.noting_handle.NotingHandleDnsHandle.send.Goals as goal

pub returns-clause-sent : goal.returns-clause-sent
returns-clause-sent g c = record {
  request = c.args.request;
  moment = c.args.now;
  asks = refl;
  is = record {
    asked = c.ask_noted-reply.ensures;
    sends = c.saturating_add-self.ensures;
    faults = c.faults_after-self.ensures;
  };
}
