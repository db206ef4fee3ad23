use Rattle.std.proofs.Common.{◌≡◌}
use Rattle.dns_tcp.specs.StreamViews.{state_of}
use Rattle.dns_shared_upstream.specs.Holders.{value_of}
use Rattle.dns_shared_upstream.specs.Rounds.{Passed}
use Rattle.dns_shared_upstream.proofs.held.move_out.Given as goal

-- messages were moved, and of the stream nothing else has changed
abbrev pub invariant-message : goal.invariant-message
invariant-message g l = record {
  passed : Passed 0 (value_of l.fn.holder) (value_of l.holder);
  failures : (state_of l.stream).failures ≡ (state_of l.fn.stream).failures;
  peer : (state_of l.stream).peer ≡ (state_of l.fn.stream).peer;
  handle : l.handle ≡ l.fn.handle;
}
