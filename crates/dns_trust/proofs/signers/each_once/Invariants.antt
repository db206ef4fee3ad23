use Rattle.dns_trust.specs.Delegating.{shown}
use Rattle.dns_trust.proofs.Once.{Kept}
use Rattle.dns_trust.proofs.signers.each_once.Given as goal

-- the keys so far are kept once
abbrev pub invariant-loop-key : goal.invariant-loop-key
invariant-loop-key l = Kept (shown l.keys) l.key-index (shown l.once.items) l.seen
