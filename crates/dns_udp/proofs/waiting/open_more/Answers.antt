use Rattle.std.proofs.Common.{Ok, arith}
use Rattle.std.proofs.lemmas.Result.{err_from_is_err_and}
use Rattle.dns_udp.specs.Met.{dialer_view, sum_met}
use Rattle.dns_udp.proofs.BindingLemmas.{no_ports, ports_then}
use Rattle.dns_udp.proofs.OpenLemmas.{opens_none, opens_then}
use Rattle.dns_udp.proofs.waiting.open_more.Goals as goal

pub loop-dial-init : goal.loop-dial-init
loop-dial-init g c = (
  λ before came met held. opens_none g.D.Datagrams.Datagrams.counts g.D.Datagrams.Datagrams.given before
      (dialer_view g.D.Dialer.counts g.D.Dialer.given_datagrams c.args.dial.now) c.args.sockets.now.items came met held,
  omega arith,
  no_ports g.R.Draws.draws_port c.args.draws.now,
  λ before from last h. (last, h),
)

pub loop-dial-preserved : goal.loop-dial-preserved
loop-dial-preserved g c = (
  λ before came met held.
      let first = c.loop-dial.invariant.0 before came met held in
      opens_then g.D.Datagrams.Datagrams.counts g.D.Datagrams.Datagrams.given before
      (dialer_view g.D.Dialer.counts g.D.Dialer.given_datagrams c.loop-dial.dial)
      (dialer_view g.D.Dialer.counts g.D.Dialer.given_datagrams c.open_socket.new.dial) c.loop-dial.sockets.items
      c.open_socket.new.sockets.items came met (Ok tt) first
      (c.in_ok-open_socket.ensures.opens before came (sum_met met first.more) first.holds),
  (let a = c.loop-dial.invariant.1 in let b = c.in_ok-open_socket.ensures.len in omega arith),
  ports_then g.R.Draws.draws_port c.args.draws.now c.loop-dial.draws c.open_socket.new.draws
      c.loop-dial.invariant.2 c.open_socket.ensures.ports,
  λ before from last h.
      let mid = c.loop-dial.invariant.3 before from last h in
      c.in_ok-open_socket.ensures.asked before from mid.0 mid.1,
)

pub returns-in_err-open_socket-clause-opens : goal.returns-in_err-open_socket-clause-opens
returns-in_err-open_socket-clause-opens g c = λ before came met held.
    let p = err_from_is_err_and c.from_residual.result c.from_residual.ensures.1 in
    let first = c.loop-dial.invariant.0 before came met held in
    rw (p.1, p.2)
    (opens_then g.D.Datagrams.Datagrams.counts g.D.Datagrams.Datagrams.given before
    (dialer_view g.D.Dialer.counts g.D.Dialer.given_datagrams c.loop-dial.dial)
    (dialer_view g.D.Dialer.counts g.D.Dialer.given_datagrams c.open_socket.new.dial) c.loop-dial.sockets.items
    c.open_socket.new.sockets.items came met _ first
    (c.in_err-open_socket.ensures.opens before came (sum_met met first.more) first.holds))

pub returns-in_err-open_socket-clause-asked : goal.returns-in_err-open_socket-clause-asked
returns-in_err-open_socket-clause-asked g c = λ before from last h.
    let p = err_from_is_err_and c.from_residual.result c.from_residual.ensures.1 in
    let mid = c.loop-dial.invariant.3 before from last h in
    rw (p.1, p.2) (c.in_err-open_socket.ensures.asked before from mid.0 mid.1)

pub returns-in_err-open_socket-clause-ports : goal.returns-in_err-open_socket-clause-ports
returns-in_err-open_socket-clause-ports g c =
    ports_then g.R.Draws.draws_port c.args.draws.now c.loop-dial.draws c.open_socket.new.draws
    c.loop-dial.invariant.2 c.open_socket.ensures.ports

pub returns-clause-opens : goal.returns-clause-opens
returns-clause-opens g c = c.loop-dial.invariant.0

pub returns-clause-asked : goal.returns-clause-asked
returns-clause-asked g c = c.loop-dial.invariant.3
