use Rattle.std.proofs.Common.{◌≡◌, ◌+◌, ◌-◌, ◌≤◌, vec_len}
use Rattle.dns_shared_upstream.specs.Upstreams.{parts_of}
use Rattle.dns_forward_run.proofs.connections.split_all.Given as goal

-- the parts of the last one are for those that are still to come
abbrev pub invariant-split : goal.invariant-split
invariant-split g l = (parts_of l.last + vec_len l.holders ≡ l.more + 1) × (vec_len l.holders ≤ l.more)

abbrev pub decreases-split : goal.decreases-split
decreases-split g l = l.more - vec_len l.holders
