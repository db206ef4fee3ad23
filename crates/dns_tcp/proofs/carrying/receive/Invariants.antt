use Rattle.std.proofs.Common.{◌≡◌, ℕ, Bool, false}
use Rattle.dns_handle.specs.Errors.{Reply}
use Rattle.dns_multiplexer.specs.Multiplexers.{draws_of, machine_of}
use Rattle.dns_tcp.specs.Exchanges.{Received}
use Rattle.dns_tcp.specs.Links.{LinkView, link_view}
use Rattle.dns_tcp.specs.Reads.{Sight, sight}
use Rattle.dns_tcp.specs.Steps.{IsGoingOn, IsOurs}
use Rattle.dns_tcp.specs.StreamViews.{link_of, state_of}
use Rattle.dns_tcp.specs.Streams.{StreamValue}
use Rattle.dns_tcp.proofs.carrying.receive.Given as goal

-- the request is still live; whatever is received from here on is received from the beginning on
abbrev pub invariant-message : goal.invariant-message
invariant-message g l = record {
  ours : (id moment : ℕ) → (machine_of l.fn.multiplexer).is_shutdown ≡ false
      → IsOurs (machine_of l.fn.multiplexer).state.requests l.number.0 id moment
      → IsOurs (machine_of l.multiplexer).state.requests l.number.0 id moment;
  open_still : (machine_of l.multiplexer).is_shutdown ≡ (machine_of l.fn.multiplexer).is_shutdown;
  later : (id moment : ℕ) (new : Sight) (stream : StreamValue) (is_shutdown : Bool) (reply : Reply)
      → (machine_of l.fn.multiplexer).is_shutdown ≡ false
      → IsOurs (machine_of l.fn.multiplexer).state.requests l.number.0 id moment
      → Received (link_view g.L.Link.counts g.L.Link.given g.L.Link.left g.L.Link.taken g.L.Link.calls)
      (sight (link_view g.L.Link.counts g.L.Link.given g.L.Link.left g.L.Link.taken g.L.Link.calls) (link_of l.stream)) new
      (state_of l.stream) stream id l.left is_shutdown reply
      → Received (link_view g.L.Link.counts g.L.Link.given g.L.Link.left g.L.Link.taken g.L.Link.calls)
      (sight (link_view g.L.Link.counts g.L.Link.given g.L.Link.left g.L.Link.taken g.L.Link.calls) (link_of l.fn.stream)) new
      (state_of l.fn.stream) stream id l.fn.most is_shutdown reply;
  going : IsGoingOn (machine_of l.fn.multiplexer) (machine_of l.multiplexer);
  draws : draws_of l.multiplexer ≡ draws_of l.fn.multiplexer;
}

abbrev pub decreases-message : goal.decreases-message
decreases-message g l = l.left
