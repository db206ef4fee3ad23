use Rattle.std.proofs.Common.{◌≡◌, take}
use Rattle.dns_denial_index.proofs.nsec3_index.Nsec3Index.try_clone.Given as goal

-- the records so far are in the copy
abbrev pub invariant-loop-nsec3 : goal.invariant-loop-nsec3
invariant-loop-nsec3 l = l.nsec3s.items ≡ take l.nsec3-index l.self
