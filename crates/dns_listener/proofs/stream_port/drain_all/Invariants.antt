use Rattle.std.proofs.Common.{[], length}
use Rattle.dns_tcp.specs.Causes.{pending}
use Rattle.dns_tcp.specs.Links.{link_view}
use Rattle.dns_tcp.specs.StreamViews.{link_of, state_of}
use Rattle.dns_tcp.specs.Reads.{sight}
use Rattle.dns_tcp.specs.Writes.{HasWritten}
use Rattle.dns_listener.proofs.stream_port.drain_all.Given as goal

-- bytes of what waited were written
abbrev pub invariant-write : goal.invariant-write
invariant-write g l =
    HasWritten (sight (link_view g.L.Link.counts g.L.Link.given g.L.Link.left g.L.Link.taken g.L.Link.calls)
    (link_of l.fn.stream))
    (sight (link_view g.L.Link.counts g.L.Link.given g.L.Link.left g.L.Link.taken g.L.Link.calls) (link_of l.stream))
    (state_of l.fn.stream) (state_of l.stream) []

abbrev pub decreases-write : goal.decreases-write
decreases-write g l = length (pending (state_of l.stream))
