use Rattle.std.proofs.Common.{◌≡◌, ◌≤◌, ◌-◌}
use Rattle.dns_listener.specs.Datagrams.{WasQuiet}
use Rattle.dns_listener.proofs.datagram_port.next_datagram.Given as goal

-- none came so far
abbrev pub invariant-wait : goal.invariant-wait
invariant-wait g l = record {
  quiet : WasQuiet (600 - l.left) (g.D.Datagrams.counts l.fn.socket) (g.D.Datagrams.counts l.socket);
  given : g.D.Datagrams.given l.socket ≡ g.D.Datagrams.given l.fn.socket;
  most : l.left ≤ 600;
}

abbrev pub decreases-wait : goal.decreases-wait
decreases-wait g l = l.left
