use Rattle.std.proofs.Common.{refl}
use Rattle.dns_client.proofs.memoize_client_handle.MemoizeClientHandleDnsHandle.send.Goals as goal

pub returns-clause-sent : goal.returns-clause-sent
returns-clause-sent g c = record {
  request = c.args.request;
  now = c.args.now;
  asks = refl;
  memoizes = record {
    sends = c.saturating_add-self.ensures;
    faults = c.faults_after-self.ensures;
    answers = c.answer_once-reply.ensures;
  };
}
