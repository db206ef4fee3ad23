use Rattle.dns_listener.proofs.TrafficLemmas.{replied_since}
use Rattle.dns_listener.proofs.counted_port.CountedPortPort.reply.Goals as goal

pub returns-clause-replied : goal.returns-clause-replied
returns-clause-replied g c =
    rw c.count_sent.ensures
    (replied_since _ c.args.bytes.now c.reply-sent.result _ _ c.reply-sent.ensures.replied)
