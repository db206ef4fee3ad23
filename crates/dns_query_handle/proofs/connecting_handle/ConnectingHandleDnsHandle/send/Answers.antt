use Rattle.std.proofs.Common.{refl}
use Rattle.dns_query_handle.proofs.connecting_handle.ConnectingHandleDnsHandle.send.Goals as goal

pub returns-clause-sent : goal.returns-clause-sent
returns-clause-sent g c = record {
  request = c.args.request;
  moment = c.args.now;
  asks = refl;
  is = record {
    id = c.id-id.result;
    drawn = c.id-id.ensures;
    asked = c.ask_over_connection-reply.ensures;
    server = refl;
    timeout = refl;
    sends = c.saturating_add-self.ensures;
    faults = c.faults_after-self.ensures;
  };
}
