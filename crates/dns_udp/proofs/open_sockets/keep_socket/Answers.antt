use Rattle.dns_udp.specs.Met.{dialer_view}
use Rattle.dns_udp.proofs.HoldLemmas.{holds_socket, holds_spare}
use Rattle.dns_udp.proofs.open_sockets.keep_socket.Goals as goal

pub returns-in-Ok-clause-kept : goal.returns-in-Ok-clause-kept
returns-in-Ok-clause-kept g c = λ before came met own held heard.
    rw c.in-Ok.ensures.items
    (holds_socket g.D.Datagrams.Datagrams.counts g.D.Datagrams.Datagrams.given before
    (dialer_view g.D.Dialer.counts g.D.Dialer.given_datagrams c.args.dial.now) c.args.sockets.now.items c.args.socket
    came met own held heard)

pub returns-in-Err-clause-kept : goal.returns-in-Err-clause-kept
returns-in-Err-clause-kept g c = λ before came met own held heard.
    rw c.in-Err.ensures.items
    (holds_spare g.D.Datagrams.Datagrams.counts g.D.Datagrams.Datagrams.given before
    (dialer_view g.D.Dialer.counts g.D.Dialer.given_datagrams c.args.dial.now)
    (dialer_view g.D.Dialer.counts g.D.Dialer.given_datagrams c.retire_datagrams.new.self) c.args.sockets.now.items
    c.in-Err.refused.value came met own held (rw c.in-Err.ensures.value_returned heard)
    (record { counts_now = c.retire_datagrams.ensures.counts; given_now = c.retire_datagrams.ensures.datagrams }))
