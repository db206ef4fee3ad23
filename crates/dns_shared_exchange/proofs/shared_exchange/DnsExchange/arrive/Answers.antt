use Rattle.crossbeam_queue.specs.Passes.{view}
use Rattle.turns.specs.Turns.{Begins}
use Rattle.dns_journal.specs.Entries.{Arrive}
use Rattle.dns_shared_exchange.proofs.CallLemmas.{begins_arrival, begins_taken}
use Rattle.dns_shared_exchange.proofs.shared_exchange.DnsExchange.arrive.Goals as goal

pub give_turn-requires-clause-begun : goal.give_turn-requires-clause-begun
give_turn-requires-clause-begun g c =
    let found = c.take_turn-core.result in
    let left = c.arrive-arrived.new.self in
    let begun : Begins left.journal found.journal =
    begins_arrival _ (λ reply. Arrive c.in_ok-bytes.bytes reply) found left c.arrive-arrived.result
    c.arrive-arrived.ensures.ok c.arrive-arrived.ensures.err in
    begins_taken (view c.token.inside.pass) (view c.take_turn-core.new.pass) found left
    c.take_turn-core.ensures.taken begun
