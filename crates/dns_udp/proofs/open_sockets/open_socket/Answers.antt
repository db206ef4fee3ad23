use Rattle.std.proofs.Common.{inl, refl, ◌∙◌}
use Rattle.std.proofs.lemmas.Result.{err_from_is_err_and}
use Rattle.dns_link.specs.declared.net_call.NetCall.TheVariants.{Send}
use Rattle.dns_link.proofs.CallLemmas.{tells_first}
use Rattle.dns_udp.specs.Asks.{ask_plan, ask_state}
use Rattle.dns_udp.specs.Met.{dialer_view}
use Rattle.dns_udp.proofs.AskLemmas.{asks_made, asks_refused}
use Rattle.dns_udp.proofs.OpenLemmas.{made_and_sent, heard_sent, not_bound}
use Rattle.dns_udp.proofs.open_sockets.open_socket.Goals as goal

pub returns-in_err-socket-clause-opens : goal.returns-in_err-socket-clause-opens
returns-in_err-socket-clause-opens g c = λ before came met held.
    let p = err_from_is_err_and c.from_residual.result c.from_residual.ensures.1 in
    rw p.1
    (not_bound g.D.Datagrams.Datagrams.counts g.D.Datagrams.Datagrams.given before
    (dialer_view g.D.Dialer.counts g.D.Dialer.given_datagrams c.args.dial.now)
    (dialer_view g.D.Dialer.counts g.D.Dialer.given_datagrams c.bind.new.dial) c.args.sockets.now.items came met
    _ p.0 c.in_err-socket.ensures.bound.refused held c.in_err-socket.ensures.bound.met p.2)

pub returns-in_err-socket-clause-asked : goal.returns-in_err-socket-clause-asked
returns-in_err-socket-clause-asked g c = λ before from last h.
    let p = err_from_is_err_and c.from_residual.result c.from_residual.ensures.1 in
    rw p.1
    (asks_refused
    (ask_plan g.D.Datagrams.Datagrams.calls g.R.Draws.draws_port c.args.binding.now (Send c.args.bytes.now c.args.server)) before from
    (ask_state g.D.Dialer.calls c.args.dial.now c.args.draws.now c.args.sockets.now.items)
    (ask_state g.D.Dialer.calls c.bind.new.dial c.bind.new.draws c.args.sockets.now.items) last h
    c.bind.new.attempted c.in_err-socket.ensures.bound.refused c.in_err-socket.ensures.bound.calls _ p.0
    c.in_err-socket.ensures.bound.tried c.in_err-socket.ensures.bound.told refl p.2)

pub returns-in_err-keep_socket-clause-opens : goal.returns-in_err-keep_socket-clause-opens
returns-in_err-keep_socket-clause-opens g c = λ before came met held.
    let p = err_from_is_err_and c.from_residual-in_err-keep_socket.result c.from_residual-in_err-keep_socket.ensures.1 in
    rw p.1
    (made_and_sent g.D.Datagrams.Datagrams.counts g.D.Datagrams.Datagrams.given before
    (dialer_view g.D.Dialer.counts g.D.Dialer.given_datagrams c.args.dial.now)
    (dialer_view g.D.Dialer.counts g.D.Dialer.given_datagrams c.bind.new.dial)
    (dialer_view g.D.Dialer.counts g.D.Dialer.given_datagrams c.keep_socket.new.dial) c.args.sockets.now.items
    c.keep_socket.new.sockets.items c.in_ok-socket.socket came met c.in_ok-socket.ensures.bound.refused
    (g.D.Datagrams.Datagrams.counts c.send_on-sent.new.socket)
    (g.D.Datagrams.Datagrams.given c.send_on-sent.new.socket) c.send_on-sent.result _ held c.in_ok-socket.ensures.bound.met
    (heard_sent (g.D.Datagrams.Datagrams.counts c.in_ok-socket.socket)
    (g.D.Datagrams.Datagrams.counts c.send_on-sent.new.socket)
    (g.D.Datagrams.Datagrams.given c.in_ok-socket.socket) (g.D.Datagrams.Datagrams.given c.send_on-sent.new.socket)
    c.send_on-sent.result c.in_ok-socket.ensures.bound.met.made c.send_on-sent.ensures.counts c.send_on-sent.ensures.given)
    (λ own_met own h heard. c.keep_socket.ensures.kept before came own_met own h heard)
    (λ h. inl (p.2 ∙ c.in_err-keep_socket.ensures.memory)))

pub returns-in_err-keep_socket-clause-asked : goal.returns-in_err-keep_socket-clause-asked
returns-in_err-keep_socket-clause-asked g c = λ before from last h.
    let p = err_from_is_err_and c.from_residual-in_err-keep_socket.result c.from_residual-in_err-keep_socket.ensures.1 in
    rw (p.1, p.2, c.in_err-keep_socket.ensures.memory) (inl refl)

pub returns-clause-opens : goal.returns-clause-opens
returns-clause-opens g c = λ before came met held.
    made_and_sent g.D.Datagrams.Datagrams.counts g.D.Datagrams.Datagrams.given before
    (dialer_view g.D.Dialer.counts g.D.Dialer.given_datagrams c.args.dial.now)
    (dialer_view g.D.Dialer.counts g.D.Dialer.given_datagrams c.bind.new.dial)
    (dialer_view g.D.Dialer.counts g.D.Dialer.given_datagrams c.keep_socket.new.dial) c.args.sockets.now.items
    c.keep_socket.new.sockets.items c.in_ok-socket.socket came met c.in_ok-socket.ensures.bound.refused
    (g.D.Datagrams.Datagrams.counts c.send_on-sent.new.socket)
    (g.D.Datagrams.Datagrams.given c.send_on-sent.new.socket) c.send_on-sent.result c.send_on-sent.result held
    c.in_ok-socket.ensures.bound.met
    (heard_sent (g.D.Datagrams.Datagrams.counts c.in_ok-socket.socket)
    (g.D.Datagrams.Datagrams.counts c.send_on-sent.new.socket)
    (g.D.Datagrams.Datagrams.given c.in_ok-socket.socket) (g.D.Datagrams.Datagrams.given c.send_on-sent.new.socket)
    c.send_on-sent.result c.in_ok-socket.ensures.bound.met.made c.send_on-sent.ensures.counts c.send_on-sent.ensures.given)
    (λ own_met own h heard. c.keep_socket.ensures.kept before came own_met own h heard) (λ h. h)

pub returns-clause-asked : goal.returns-clause-asked
returns-clause-asked g c = λ before from last h.
    asks_made
    (ask_plan g.D.Datagrams.Datagrams.calls g.R.Draws.draws_port c.args.binding.now (Send c.args.bytes.now c.args.server)) before from
    (ask_state g.D.Dialer.calls c.args.dial.now c.args.draws.now c.args.sockets.now.items)
    (ask_state g.D.Dialer.calls c.keep_socket.new.dial c.bind.new.draws c.keep_socket.new.sockets.items) last h
    c.bind.new.attempted c.in_ok-socket.ensures.bound.refused c.in_ok-socket.ensures.bound.calls
    c.send_on-sent.new.socket c.in_ok-socket.socket c.send_on-sent.ensures.asked.fault c.send_on-sent.result
    c.in_ok-socket.ensures.bound.tried (rw c.in_ok-keep_socket.ensures.dial c.in_ok-socket.ensures.bound.told)
    c.in_ok-keep_socket.ensures.behind
    (tells_first (g.D.Datagrams.Datagrams.calls c.in_ok-socket.socket) (g.D.Datagrams.Datagrams.calls c.send_on-sent.new.socket) _
    c.in_ok-socket.ensures.unasked c.send_on-sent.ensures.asked.told)
    c.send_on-sent.ensures.asked.kind
