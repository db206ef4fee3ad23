use Rattle.std.proofs.Common.{ap, sym, subst, ◌∙◌}
use Rattle.dns_multiplexer.specs.Queues.{StreamHandleValue}
use Rattle.dns_tcp.specs.Links.{link_view}
use Rattle.dns_tcp.specs.StreamViews.{link_of, state_of}
use Rattle.dns_tcp.specs.Reads.{sight}
use Rattle.dns_tcp.specs.Writes.{HasWritten}
use Rattle.dns_tcp.proofs.WriteLemmas.{no_message, written_none}
use Rattle.dns_listener.proofs.StreamLemmas.{no_bytes, queued}
use Rattle.dns_listener.proofs.stream_port.put.Goals as goal

-- a message without a byte: nothing waits
pub returns-then-is_empty-clause-queued : goal.returns-then-is_empty-clause-queued
returns-then-is_empty-clause-queued g c =
    let view = link_view g.L.Link.counts g.L.Link.given g.L.Link.left g.L.Link.taken g.L.Link.calls in
    let seen = sight view (link_of c.args.stream.now) in
    let stream = state_of c.args.stream.now in
    let none = no_bytes c.args.bytes.now (sym c.is_empty.ensures ∙ c.if-is_empty.true) in
    subst (λ moved. HasWritten seen seen stream stream moved) (sym (no_message stream.peer c.args.bytes.now none))
    (written_none seen stream)

pub returns-clause-queued : goal.returns-clause-queued
returns-clause-queued g c =
    let view = link_view g.L.Link.counts g.L.Link.given g.L.Link.left g.L.Link.taken g.L.Link.calls in
    queued view (link_of c.args.stream.now) (state_of c.args.stream.now) (state_of c.enqueue.new.self)
    c.new-handle.result.0.addr c.args.bytes.now
    (ap (λ (h : StreamHandleValue). h.addr) c.new-handle.ensures.handle ∙ c.peer_addr-addr.ensures)
    (sym c.is_empty.ensures ∙ c.if-is_empty.false) c.enqueue.ensures.kept
    (record { bytes = c.in_ok-bytes.bytes; addr = c.peer_addr-addr.result }) c.new-handle.result.0.buffer
    c.enqueue.result c.in_ok-bytes.ensures c.enqueue.ensures.put
