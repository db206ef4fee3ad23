use Rattle.dns_listener.proofs.TrafficLemmas.{received_since}
use Rattle.dns_listener.proofs.counted_port.CountedPortPort.receive.Goals as goal

pub returns-clause-received : goal.returns-clause-received
returns-clause-received g c =
    rw c.count_receive.ensures.counted (received_since _ c.receive-given.result _ _ c.receive-given.ensures.received)
