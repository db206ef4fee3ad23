use Rattle.std.proofs.Common.{◌≡◌, take}
use Rattle.dns_evidence.proofs.listed.Listed.try_clone.Given as goal

-- the signatures so far are in the copy, beside all algorithms
abbrev pub invariant-loop-entry : goal.invariant-loop-entry
invariant-loop-entry l = l.copy ≡ record l.self { accepted = take l.entry-index l.self.accepted }
