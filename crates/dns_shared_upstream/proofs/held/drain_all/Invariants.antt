use Rattle.std.proofs.Common.{◌≡◌, length}
use Rattle.dns_tcp.specs.Causes.{pending}
use Rattle.dns_tcp.specs.StreamViews.{state_of}
use Rattle.dns_shared_upstream.proofs.held.drain_all.Given as goal

-- no failure was met
abbrev pub invariant-write : goal.invariant-write
invariant-write g l = record {
  failures : (state_of l.stream).failures ≡ (state_of l.fn.stream).failures;
  peer : (state_of l.stream).peer ≡ (state_of l.fn.stream).peer;
}

abbrev pub decreases-write : goal.decreases-write
decreases-write g l = length (pending (state_of l.stream))
