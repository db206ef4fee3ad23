use Rattle.dns_trust.specs.Delegating.{shown}
use Rattle.dns_trust.proofs.Counts.{Taken}
use Rattle.dns_trust.proofs.counted.counted_keys.Given as goal

-- the keys so far are counted, and those of them that count are taken
abbrev pub invariant-loop-key : goal.invariant-loop-key
invariant-loop-key l = Taken l.read.signer l.keys l.key-index l.counts (shown l.counted.items)
