use Rattle.std.proofs.Common.{List, length, Option}
use Rattle.std.specs.VecDeque.{deque_len}
use Rattle.dns_handle.specs.declared.io_kind.IoKind.{IoKind}
use Rattle.dns_link.specs.Calls.{IsToldWith, NetCalls}
use Rattle.dns_link.specs.declared.net_call.NetCall.{NetCall}
use Rattle.dns_link.specs.Counts.{CountsValue}
use Rattle.dns_link.specs.Moved.{DatagramValue}
use Rattle.dns_udp.specs.Asks.{AreTold}
use Rattle.dns_udp.specs.Conversations.{calls_with_sends}
use Rattle.dns_udp.proofs.AskLemmas.{IsGivingBack}
use Rattle.dns_udp.specs.Met.{DialerView, dialer_view}
use Rattle.dns_udp.specs.OpenSockets.{Holds}
use Rattle.dns_udp.proofs.open_sockets.retire_all.Given as goal

-- what was held with all sockets is held with those that are still open
abbrev pub invariant-loop-socket : goal.invariant-loop-socket
invariant-loop-socket g l =
    ((before : DialerView) → (came : List DatagramValue) → (met : CountsValue)
    → Holds g.D.Datagrams.Datagrams.counts g.D.Datagrams.Datagrams.given before
    (dialer_view g.D.Dialer.counts g.D.Dialer.given_datagrams l.fn.dial) l.fn.sockets.items came met
    → Holds g.D.Datagrams.Datagrams.counts g.D.Datagrams.Datagrams.given before
    (dialer_view g.D.Dialer.counts g.D.Dialer.given_datagrams l.dial) l.left.items came met)
    × ((send : NetCall) → (before : Option NetCalls) → (back : NetCalls) → (fault : Option IoKind)
    → IsToldWith before back (g.D.Dialer.calls l.fn.dial) → AreTold g.D.Datagrams.Datagrams.calls send l.fn.sockets.items fault
    → IsGivingBack g.D.Datagrams.Datagrams.calls send before (g.D.Dialer.calls l.dial) l.left.items
    (calls_with_sends back (length l.fn.sockets.items) send fault))

abbrev pub decreases-loop-socket : goal.decreases-loop-socket
decreases-loop-socket g l = deque_len l.left
