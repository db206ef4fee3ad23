use Rattle.std.proofs.Common.{◌-◌, length}
use Rattle.dns_tcp.specs.Links.{link_view}
use Rattle.dns_tcp.specs.StreamViews.{link_of, state_of}
use Rattle.dns_tcp.specs.Reads.{sight}
use Rattle.dns_tcp.specs.Steps.{IsReading}
use Rattle.dns_listener.proofs.stream_port.next_request.Given as goal

-- bytes of the message were read
abbrev pub invariant-frame : goal.invariant-frame
invariant-frame g l =
    IsReading (sight (link_view g.L.Link.counts g.L.Link.given g.L.Link.left g.L.Link.taken g.L.Link.calls)
    (link_of l.fn.stream))
    (sight (link_view g.L.Link.counts g.L.Link.given g.L.Link.left g.L.Link.taken g.L.Link.calls) (link_of l.stream))
    (state_of l.fn.stream) (state_of l.stream)

-- a part is shorter than a frame and a byte
abbrev pub decreases-frame : goal.decreases-frame
decreases-frame g l = 65538 - length (state_of l.stream).part
