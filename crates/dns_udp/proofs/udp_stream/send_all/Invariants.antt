use Rattle.std.proofs.Common.{◌≡◌, length, Option}
use Rattle.dns_link.specs.Calls.{NetCalls}
use Rattle.dns_link.specs.Counts.{CountsValue}
use Rattle.dns_udp.specs.Streams.{AreSent, AreSentOnce}
use Rattle.dns_udp.proofs.udp_stream.send_all.Given as goal

-- once those are sent that still wait, all are
abbrev pub invariant-loop-message : goal.invariant-loop-message
invariant-loop-message g l =
    ((last : CountsValue) → AreSentOnce l.queue (g.G.Datagrams.counts l.socket) last
    → AreSentOnce l.fn.queue (g.G.Datagrams.counts l.fn.socket) last)
    × (g.G.Datagrams.given l.socket ≡ g.G.Datagrams.given l.fn.socket)
    × ((last : Option NetCalls) → AreSent l.queue (g.G.Datagrams.calls l.socket) last
    → AreSent l.fn.queue (g.G.Datagrams.calls l.fn.socket) last)

abbrev pub decreases-loop-message : goal.decreases-loop-message
decreases-loop-message g l = length l.queue
