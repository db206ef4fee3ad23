use Rattle.crossbeam_queue.specs.Passes.{view}
use Rattle.turns.specs.Turns.{Begins}
use Rattle.dns_shared_exchange.proofs.CallLemmas.{begins_send, begins_taken}
use Rattle.dns_shared_exchange.proofs.shared_exchange.DnsExchange.send.Goals as goal

pub give_turn-requires-clause-begun : goal.give_turn-requires-clause-begun
give_turn-requires-clause-begun g c =
    let found = c.take_turn-core.result in
    let left = c.send-sent.new.self in
    let begun : Begins left.journal found.journal =
    begins_send _ _ _ found left c.send-sent.result c.send-sent.ensures.ok c.send-sent.ensures.err in
    begins_taken (view c.token.inside.pass) (view c.take_turn-core.new.pass) found left
    c.take_turn-core.ensures.taken begun
