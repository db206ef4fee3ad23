use Rattle.std.proofs.Common.{◌≤◌}
use Rattle.dns_shared_upstream.specs.Holders.{value_of}
use Rattle.dns_shared_upstream.specs.Rounds.{Passed}
use Rattle.dns_shared_upstream.proofs.sending.wait.Given as goal

-- so many messages came, and no call ended the wait
abbrev pub invariant-round : goal.invariant-round
invariant-round g l = record {
  passed : Passed l.messages (value_of l.fn.holder) (value_of l.holder);
  most : l.messages ≤ 1024;
}
