use Rattle.dns_tcp.proofs.StepLemmas.{tried_error, tried_written}
use Rattle.dns_tcp.proofs.stream_state.StreamState.try_drain.Goals as goal

pub returns-in-Err : goal.returns-in-Err
returns-in-Err g c = tried_error _ _ _ _ _ c.in-Err.ensures

pub returns-else-not-ready : goal.returns-else-not-ready
returns-else-not-ready g c =
    tried_written _ _ _ _ _ _ _ _ _ c.in-Ok.ensures c.if-not-ready.false c.write-outcome.ensures.once
    c.write-outcome.ensures.sent c.drain_reply.ensures
