use Rattle.std.proofs.Common.{◌≡◌, false, ◌<◌, ap, sym, ◌∙◌}
use Rattle.std.proofs.lemmas.Bool.{lt-leb}
use Rattle.dns_multiplexer.specs.Machine.{is_busy, live_count}
use Rattle.dns_multiplexer.proofs.CoreLemmas.{sent_exhausted, sent_placed}
use Rattle.dns_multiplexer.proofs.multiplexer_core.MultiplexerCore.send.Goals as goal

pub returns-in_default-clause-sent : goal.returns-in_default-clause-sent
returns-in_default-clause-sent g c =
    let below : live_count c.self.inside.table.requests < c.self.inside.maximum = rw c.live.ensures at c.if-live-self.false in
    rw (← c.self.view_is)
    (sent_exhausted g.R.Draws.draws_id _ _ _ _ c.args.request c.args.now_ms
    (lt-leb c.self.inside.maximum (live_count c.self.inside.table.requests) below)
    c.in_default.ensures)

pub returns-clause-sent : goal.returns-clause-sent
returns-clause-sent g c =
    let below : live_count c.self.inside.table.requests < c.self.inside.maximum = rw c.live.ensures at c.if-live-self.false in
    let idle : is_busy c.args.self.now.machine.settings c.args.self.now.machine.state ≡ false =
    sym (ap (λ v. is_busy v.machine.settings v.machine.state) c.self.view_is)
    ∙ lt-leb c.self.inside.maximum (live_count c.self.inside.table.requests) below in
    sent_placed g.R.Draws.draws_id _ _ _ _ _ c.args.request c.args.now_ms c.in-Some.id _ idle
    (rw (ap (λ v. v.machine.state.requests) c.self.view_is) at c.in-Some.ensures) c.place.ensures.placed
