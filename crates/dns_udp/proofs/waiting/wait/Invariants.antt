use Rattle.std.proofs.Common.{◌+◌, ◌-◌, ◌<◌, ◌≤◌, length, None}
use Rattle.dns_udp.specs.Met.{dialer_view}
use Rattle.dns_udp.specs.Asks.{AsksOn, ask_state}
use Rattle.dns_udp.specs.Sendings.{asked_by, plan_of}
use Rattle.dns_udp.specs.Waiting.{IsWaiting}
use Rattle.dns_udp.proofs.waiting.wait.Given as goal

-- the call goes on, and the socket whose turn it is is open
abbrev pub invariant-turns : goal.invariant-turns
invariant-turns g l =
    IsWaiting g.D.Datagrams.Datagrams.counts g.D.Datagrams.Datagrams.given g.R.Draws.draws_port (asked_by l.sending)
    (dialer_view g.D.Dialer.counts g.D.Dialer.given_datagrams l.fn.dial)
    (dialer_view g.D.Dialer.counts g.D.Dialer.given_datagrams l.dial)
    l.fn.draws l.draws l.sockets.items l.progress.elapsed l.progress.ignored
    × (l.progress.turn < length l.sockets.items)
    × (l.progress.ignored ≤ 65536)
    × AsksOn (plan_of g.D.Datagrams.Datagrams.calls g.R.Draws.draws_port l.sending) (g.D.Dialer.calls l.fn.dial) l.fn.draws
    (ask_state g.D.Dialer.calls l.dial l.draws l.sockets.items) None

abbrev pub decreases-turns : goal.decreases-turns
decreases-turns g l = (l.sending.timeout - l.progress.elapsed) + (65536 - l.progress.ignored)
