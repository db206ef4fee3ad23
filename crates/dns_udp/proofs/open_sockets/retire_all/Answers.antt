use Rattle.dns_udp.specs.Met.{dialer_view}
use Rattle.dns_udp.proofs.AskLemmas.{giving_first, giving_last, giving_one}
use Rattle.dns_udp.proofs.HoldLemmas.{holds_back, holds_end}
use Rattle.dns_udp.proofs.ListLemmas.{empty_from}
use Rattle.dns_udp.proofs.open_sockets.retire_all.Goals as goal

pub loop-socket-init : goal.loop-socket-init
loop-socket-init g c = (
  λ before came met held. rw c.from_vec-left.ensures.items held,
  λ send before back fault dialed sent.
      rw c.from_vec-left.ensures.items
      (giving_first g.D.Datagrams.Datagrams.calls send before (g.D.Dialer.calls c.args.dial.now) c.args.sockets.items back fault dialed sent),
)

pub loop-socket-preserved : goal.loop-socket-preserved
loop-socket-preserved g c = (
  λ before came met held.
      holds_back g.D.Datagrams.Datagrams.counts g.D.Datagrams.Datagrams.given before
      (dialer_view g.D.Dialer.counts g.D.Dialer.given_datagrams c.loop-socket.dial)
      (dialer_view g.D.Dialer.counts g.D.Dialer.given_datagrams c.retire_datagrams.new.self) c.in-Some.socket
      c.pop_front.new.self.items came met (rw c.in-Some.ensures.items at c.loop-socket.invariant.0 before came met held)
      (record { counts_now = c.retire_datagrams.ensures.counts; given_now = c.retire_datagrams.ensures.datagrams }),
  λ send before back fault dialed sent.
      giving_one g.D.Datagrams.Datagrams.calls send before (g.D.Dialer.calls c.loop-socket.dial)
      (g.D.Dialer.calls c.retire_datagrams.new.self) c.in-Some.socket c.pop_front.new.self.items _
      (rw c.in-Some.ensures.items at c.loop-socket.invariant.1 send before back fault dialed sent) c.retire_datagrams.ensures.calls,
)

pub returns-clause-met : goal.returns-clause-met
returns-clause-met g c = λ before came met held.
    holds_end g.D.Datagrams.Datagrams.counts g.D.Datagrams.Datagrams.given before
    (dialer_view g.D.Dialer.counts g.D.Dialer.given_datagrams c.loop-socket.dial) came met
    (rw (empty_from c.loop-socket.left.items c.pop_front.new.self.items c.in_default.ensures.items
    c.in_default.ensures.rest)
    at c.loop-socket.invariant.0 before came met held)

pub returns-clause-asked : goal.returns-clause-asked
returns-clause-asked g c = λ send before back fault dialed sent.
    giving_last g.D.Datagrams.Datagrams.calls send before (g.D.Dialer.calls c.loop-socket.dial) _
    (rw (empty_from c.loop-socket.left.items c.pop_front.new.self.items c.in_default.ensures.items
    c.in_default.ensures.rest)
    at c.loop-socket.invariant.1 send before back fault dialed sent)
