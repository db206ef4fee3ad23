use Rattle.std.proofs.Common.{◌≡◌, List, ◌++◌, length}
use Rattle.dns_multiplexer.specs.Messages.{SerialMessageValue}
use Rattle.dns_multiplexer.specs.Multiplexers.{machine_of, draws_of}
use Rattle.dns_tcp.specs.Links.{link_view}
use Rattle.dns_tcp.specs.StreamViews.{link_of, state_of}
use Rattle.dns_tcp.specs.Reads.{sight}
use Rattle.dns_tcp.specs.Steps.{IsPopped}
use Rattle.dns_tcp.specs.Writes.{HasWrittenAll, messages_to}
use Rattle.dns_tcp.proofs.writing.write_out.Given as goal

-- all that was popped is written, and nothing else has changed
abbrev pub invariant-message : goal.invariant-message
invariant-message g l = record {
  popped : List SerialMessageValue;
  parted : (machine_of l.fn.multiplexer).state.outbound ≡ popped ++ (machine_of l.multiplexer).state.outbound;
  out : HasWrittenAll (sight (link_view g.L.Link.counts g.L.Link.given g.L.Link.left g.L.Link.taken g.L.Link.calls)
      (link_of l.fn.stream))
      (sight (link_view g.L.Link.counts g.L.Link.given g.L.Link.left g.L.Link.taken g.L.Link.calls) (link_of l.stream))
      (state_of l.fn.stream) (state_of l.stream) (messages_to (state_of l.fn.stream).peer popped);
  handle : l.handle.addr ≡ (state_of l.fn.stream).peer;
  kept : IsPopped (machine_of l.fn.multiplexer) (machine_of l.multiplexer);
  draws : draws_of l.multiplexer ≡ draws_of l.fn.multiplexer;
}

abbrev pub decreases-message : goal.decreases-message
decreases-message g l = length (machine_of l.multiplexer).state.outbound
