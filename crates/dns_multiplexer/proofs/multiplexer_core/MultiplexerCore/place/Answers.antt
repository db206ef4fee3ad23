use Rattle.std.proofs.Common.{Ok, subst}
use Rattle.dns_multiplexer.specs.Brought.{TracedCore}
use Rattle.dns_multiplexer.specs.Draws.{IsPlaced}
use Rattle.dns_multiplexer.specs.Machine.{Settings, State}
use Rattle.dns_multiplexer.proofs.CoreLemmas.{placed_sent}
use Rattle.dns_multiplexer.proofs.multiplexer_core.MultiplexerCore.place.Goals as goal

pub returns-in-Ok-clause-placed : goal.returns-in-Ok-clause-placed
returns-in-Ok-clause-placed c =
    let core = c.self.inside in
    let settings : Settings = record
    { timeout = core.timeout; maximum = core.maximum; buffer = core.handle.buffer; server = core.handle.addr } in
    let old : State = record { requests = core.table.requests; outbound = core.queue } in
    let new : State = record { requests = c.open.new.self.requests; outbound = c.send.new.queue } in
    subst
    (λ (known : TracedCore). IsPlaced known.machine.settings known.machine.state new c.args.id c.args.request c.args.now
    (Ok c.in-Ok.number))
    c.self.view_is
    (placed_sent settings old c.args.id c.args.request c.args.now c.in_ok-under_id.field-0 c.send.new.queue
    c.open.new.self.requests c.in-Ok.number
    c.in_ok-under_id.ensures c.in_ok-send.ensures.put.0 c.in_ok-send.ensures.put.1 c.in-Ok.ensures.number
    c.in-Ok.ensures.ok)
