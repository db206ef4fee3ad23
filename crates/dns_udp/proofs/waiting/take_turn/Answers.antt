use Rattle.std.proofs.Common.{[], ◌∷◌, take, refl, arith}
use Rattle.dns_udp.specs.Met.{dialer_view}
use Rattle.dns_udp.specs.Asks.{ask_state}
use Rattle.dns_udp.specs.Sendings.{asked_by, plan_of}
use Rattle.dns_udp.proofs.AskLemmas.{asks_failed, asks_heard, asks_judged}
use Rattle.dns_udp.proofs.HoldLemmas.{holds_turn}
use Rattle.dns_udp.proofs.SocketLemmas.{turned_none, turned_some}
use Rattle.dns_udp.proofs.WaitLemmas.{taken_fits, turn_came, turn_failed, turn_fault, turn_opened, turn_quiet}
use Rattle.dns_udp.proofs.waiting.take_turn.Goals as goal

pub returns-in-Err-clause-ends : goal.returns-in-Err-clause-ends
returns-in-Err-clause-ends g c = λ before from w.
    turn_failed g.D.Datagrams.Datagrams.counts g.D.Datagrams.Datagrams.given g.R.Draws.draws_port
    (asked_by c.args.sending.now)
    before (dialer_view g.D.Dialer.counts g.D.Dialer.given_datagrams c.open_more.new.dial) from c.open_more.new.draws
    c.open_more.new.sockets.items c.args.progress.now.elapsed c.args.progress.now.ignored c.requires.range
    c.requires.time c.requires.few
    (dialer_view g.D.Dialer.counts g.D.Dialer.given_datagrams c.args.dial.now) c.args.draws.now
    c.args.sockets.now.items c.in-Err.error w c.open_more.ensures.ports
    (c.in-Err.ensures.opens before w.came w.met w.holds)

pub returns-in-Err-receive_in_turn-clause-ends : goal.returns-in-Err-receive_in_turn-clause-ends
returns-in-Err-receive_in_turn-clause-ends g c = λ before from w.
    let opened = turn_opened g.D.Datagrams.Datagrams.counts g.D.Datagrams.Datagrams.given g.R.Draws.draws_port
    (asked_by c.args.sending.now) before
    (dialer_view g.D.Dialer.counts g.D.Dialer.given_datagrams c.open_more.new.dial) from
    c.open_more.new.draws c.open_more.new.sockets.items c.args.progress.now.elapsed c.args.progress.now.ignored
    c.requires.range c.requires.time c.requires.few
    (dialer_view g.D.Dialer.counts g.D.Dialer.given_datagrams c.args.dial.now) c.args.draws.now
    c.args.sockets.now.items w c.open_more.ensures.ports (c.in-Ok.ensures.opens before w.came w.met w.holds) in
    let turns = holds_turn g.D.Datagrams.Datagrams.counts g.D.Datagrams.Datagrams.given before
    (dialer_view g.D.Dialer.counts g.D.Dialer.given_datagrams c.open_more.new.dial) c.open_more.new.sockets.items
    c.receive_in_turn.new.sockets.items [] opened.came opened.met
    (record { faults = 1; ends = 0; gots = 0; quiet = 0 }) opened.holds
    (λ waiting open_met h. c.in-Err-receive_in_turn.ensures.turned waiting open_met h) in
    rw c.from.ensures
    (turn_fault g.D.Datagrams.Datagrams.counts g.D.Datagrams.Datagrams.given g.R.Draws.draws_port
    (asked_by c.args.sending.now) before
    (dialer_view g.D.Dialer.counts g.D.Dialer.given_datagrams c.open_more.new.dial) from c.open_more.new.draws
    c.receive_in_turn.new.sockets.items c.args.progress.now.elapsed c.args.progress.now.ignored c.requires.range
    c.requires.time c.requires.few
    c.open_more.new.sockets.items opened
    c.in-Err-receive_in_turn.kind turns)

pub returns-in-Ok-None-clause-ends : goal.returns-in-Ok-None-clause-ends
returns-in-Ok-None-clause-ends g c = λ before from w.
    let opened = turn_opened g.D.Datagrams.Datagrams.counts g.D.Datagrams.Datagrams.given g.R.Draws.draws_port
    (asked_by c.args.sending.now) before
    (dialer_view g.D.Dialer.counts g.D.Dialer.given_datagrams c.open_more.new.dial) from
    c.open_more.new.draws c.open_more.new.sockets.items c.args.progress.now.elapsed c.args.progress.now.ignored
    c.requires.range c.requires.time c.requires.few
    (dialer_view g.D.Dialer.counts g.D.Dialer.given_datagrams c.args.dial.now) c.args.draws.now
    c.args.sockets.now.items w c.open_more.ensures.ports (c.in-Ok.ensures.opens before w.came w.met w.holds) in
    let turns = holds_turn g.D.Datagrams.Datagrams.counts g.D.Datagrams.Datagrams.given before
    (dialer_view g.D.Dialer.counts g.D.Dialer.given_datagrams c.open_more.new.dial) c.open_more.new.sockets.items
    c.receive_in_turn.new.sockets.items [] opened.came opened.met
    (record { faults = 0; ends = 0; gots = 0; quiet = 1 }) opened.holds
    (λ waiting open_met h. turned_none g.D.Datagrams.Datagrams.counts g.D.Datagrams.Datagrams.given
    c.receive_in_turn.new.sockets.items c.in-Ok-None.field-0 c.receive_in_turn.new.buf waiting open_met
    c.in-Ok-None.field-0-is (c.in-Ok-None.ensures.turned waiting open_met h)) in
    turn_quiet g.D.Datagrams.Datagrams.counts g.D.Datagrams.Datagrams.given g.R.Draws.draws_port
    (asked_by c.args.sending.now) before
    (dialer_view g.D.Dialer.counts g.D.Dialer.given_datagrams c.open_more.new.dial) from c.open_more.new.draws
    c.receive_in_turn.new.sockets.items c.args.progress.now.elapsed c.args.progress.now.ignored c.requires.range
    c.requires.time c.requires.few
    c.open_more.new.sockets.items opened
    c.saturating_add-progress.result c.saturating_add-progress.ensures turns

pub returns-in-Ok-Some-clause-ends : goal.returns-in-Ok-Some-clause-ends
returns-in-Ok-Some-clause-ends g c = λ before from w.
    let opened = turn_opened g.D.Datagrams.Datagrams.counts g.D.Datagrams.Datagrams.given g.R.Draws.draws_port
    (asked_by c.args.sending.now) before
    (dialer_view g.D.Dialer.counts g.D.Dialer.given_datagrams c.open_more.new.dial) from
    c.open_more.new.draws c.open_more.new.sockets.items c.args.progress.now.elapsed c.args.progress.now.ignored
    c.requires.range c.requires.time c.requires.few
    (dialer_view g.D.Dialer.counts g.D.Dialer.given_datagrams c.args.dial.now) c.args.draws.now
    c.args.sockets.now.items w c.open_more.ensures.ports (c.in-Ok.ensures.opens before w.came w.met w.holds) in
    let turns = holds_turn g.D.Datagrams.Datagrams.counts g.D.Datagrams.Datagrams.given before
    (dialer_view g.D.Dialer.counts g.D.Dialer.given_datagrams c.open_more.new.dial) c.open_more.new.sockets.items
    c.receive_in_turn.new.sockets.items
    ((take c.in-Ok-Some.came.0 c.receive_in_turn.new.buf, c.in-Ok-Some.came.1) ∷ []) opened.came opened.met
    (record { faults = 0; ends = 0; gots = 1; quiet = 0 }) opened.holds
    (λ waiting open_met h. turned_some g.D.Datagrams.Datagrams.counts g.D.Datagrams.Datagrams.given
    c.receive_in_turn.new.sockets.items c.in-Ok-Some.field-0 c.receive_in_turn.new.buf waiting open_met
    c.in-Ok-Some.came c.in-Ok-Some.field-0-is (c.in-Ok-Some.ensures.turned waiting open_met h)) in
    turn_came g.D.Datagrams.Datagrams.counts g.D.Datagrams.Datagrams.given g.R.Draws.draws_port
    (asked_by c.args.sending.now) before
    (dialer_view g.D.Dialer.counts g.D.Dialer.given_datagrams c.open_more.new.dial) from c.open_more.new.draws
    c.receive_in_turn.new.sockets.items c.args.progress.now.elapsed c.args.progress.now.ignored c.requires.range
    c.requires.time c.requires.few
    c.open_more.new.sockets.items opened
    (take c.in-Ok-Some.came.0 c.receive_in_turn.new.buf, c.in-Ok-Some.came.1)
    (taken_fits c.args.sending.now.request.now c.receive_in_turn.new.buf c.in-Ok-Some.came
    (rw c.in-Ok-Some.field-0-is at c.in-Ok-Some.ensures.bound) (omega (arith, c.requires.room))) turns
    c.judge_front.result
    c.judge_front.ensures

pub judge_front-requires-clause-inside : goal.judge_front-requires-clause-inside
judge_front-requires-clause-inside g c = rw c.in-Ok-Some.field-0-is at c.in-Ok-Some.ensures.bound

pub returns-in-Err-clause-asked : goal.returns-in-Err-clause-asked
returns-in-Err-clause-asked g c = λ before from last h. c.in-Err.ensures.asked before from last h

pub returns-in-Err-receive_in_turn-clause-asked : goal.returns-in-Err-receive_in_turn-clause-asked
returns-in-Err-receive_in_turn-clause-asked g c = λ before from last h.
    let opened = c.in-Ok.ensures.asked before from last h in
    rw c.from.ensures
    (asks_failed (plan_of g.D.Datagrams.Datagrams.calls g.R.Draws.draws_port c.args.sending.now) before from
    (ask_state g.D.Dialer.calls c.open_more.new.dial c.open_more.new.draws c.open_more.new.sockets.items)
    (ask_state g.D.Dialer.calls c.open_more.new.dial c.open_more.new.draws c.receive_in_turn.new.sockets.items) opened.0 opened.1
    c.in-Err-receive_in_turn.kind refl refl c.receive_in_turn.ensures.len
    (c.in-Err-receive_in_turn.ensures.asked _ opened.1.sent))

pub returns-in-Ok-None-clause-asked : goal.returns-in-Ok-None-clause-asked
returns-in-Ok-None-clause-asked g c = λ before from last h.
    let opened = c.in-Ok.ensures.asked before from last h in (
      opened.0,
      asks_heard (plan_of g.D.Datagrams.Datagrams.calls g.R.Draws.draws_port c.args.sending.now) before from
          (ask_state g.D.Dialer.calls c.open_more.new.dial c.open_more.new.draws c.open_more.new.sockets.items)
          (ask_state g.D.Dialer.calls c.open_more.new.dial c.open_more.new.draws c.receive_in_turn.new.sockets.items) opened.0 opened.1
          refl refl c.receive_in_turn.ensures.len (c.in-Ok-None.ensures.asked _ opened.1.sent),
    )

pub returns-in-Ok-Some-clause-asked : goal.returns-in-Ok-Some-clause-asked
returns-in-Ok-Some-clause-asked g c = λ before from last h.
    let opened = c.in-Ok.ensures.asked before from last h in
    asks_judged (plan_of g.D.Datagrams.Datagrams.calls g.R.Draws.draws_port c.args.sending.now) before from
    (ask_state g.D.Dialer.calls c.open_more.new.dial c.open_more.new.draws c.open_more.new.sockets.items)
    (ask_state g.D.Dialer.calls c.open_more.new.dial c.open_more.new.draws c.receive_in_turn.new.sockets.items) opened.0 opened.1
    c.args.sending.now.request.now c.args.sending.now.server
    (take c.in-Ok-Some.came.0 c.receive_in_turn.new.buf, c.in-Ok-Some.came.1) c.judge_front.result c.judge_front.ensures
    (asks_heard (plan_of g.D.Datagrams.Datagrams.calls g.R.Draws.draws_port c.args.sending.now) before from
    (ask_state g.D.Dialer.calls c.open_more.new.dial c.open_more.new.draws c.open_more.new.sockets.items)
    (ask_state g.D.Dialer.calls c.open_more.new.dial c.open_more.new.draws c.receive_in_turn.new.sockets.items) opened.0 opened.1
    refl refl c.receive_in_turn.ensures.len (c.in-Ok-Some.ensures.asked _ opened.1.sent))
