use Rattle.std.proofs.Common.{◌-◌, ◌≤◌, List, length, None, Ok}
use Rattle.dns_link.specs.Counts.{CountsValue}
use Rattle.dns_link.specs.Moved.{DatagramValue}
use Rattle.dns_udp.specs.Bindings.{DrawsPorts}
use Rattle.dns_udp.specs.Met.{DialerView, dialer_view}
use Rattle.dns_udp.specs.OpenSockets.{Holds}
use Rattle.dns_udp.specs.Asks.{AsksMore, ask_state}
use Rattle.dns_udp.specs.Sendings.{plan_of}
use Rattle.dns_udp.specs.Waiting.{Opens}
use Rattle.dns_udp.proofs.waiting.open_more.Given as goal

-- what was held when the call began is held, with what the sockets met that were opened
abbrev pub invariant-loop-dial : goal.invariant-loop-dial
invariant-loop-dial g l =
    ((before : DialerView) → (came : List DatagramValue) → (met : CountsValue)
    → Holds g.D.Datagrams.Datagrams.counts g.D.Datagrams.Datagrams.given before
    (dialer_view g.D.Dialer.counts g.D.Dialer.given_datagrams l.fn.dial) l.fn.sockets.items came met
    → Opens {X = Unit {0}} g.D.Datagrams.Datagrams.counts g.D.Datagrams.Datagrams.given before
    (dialer_view g.D.Dialer.counts g.D.Dialer.given_datagrams l.dial) l.sockets.items came met
    (Ok tt))
    × (length l.fn.sockets.items ≤ length l.sockets.items)
    × DrawsPorts g.R.Draws.draws_port l.fn.draws l.draws
    × AsksMore (plan_of g.D.Datagrams.Datagrams.calls g.R.Draws.draws_port l.sending)
    (ask_state g.D.Dialer.calls l.fn.dial l.fn.draws l.fn.sockets.items) (ask_state g.D.Dialer.calls l.dial l.draws l.sockets.items) None

abbrev pub decreases-loop-dial : goal.decreases-loop-dial
decreases-loop-dial g l = l.tries - length l.sockets.items
