use Rattle.std.proofs.Common.{◌≡◌, take}
use Rattle.dns_evidence.proofs.trail_copies.clone_sets.Given as goal

-- the sets so far are in the copy
abbrev pub invariant-loop-set : goal.invariant-loop-set
invariant-loop-set l = l.all.items ≡ take l.set-index l.sets.items
