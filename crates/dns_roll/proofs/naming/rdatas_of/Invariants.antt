use Rattle.std.proofs.Common.{◌≡◌, take}
use Rattle.dns_roll.proofs.naming.rdatas_of.Given as goal

-- those of the keys so far
abbrev pub invariant-loop-key : goal.invariant-loop-key
invariant-loop-key l = l.all.items ≡ take l.key-index l.keys
