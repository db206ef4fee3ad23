use Rattle.std.proofs.Common.{◌≡◌, take}
use Rattle.dns_denial_index.proofs.nsec_index.NsecIndex.try_clone.Given as goal

-- the records so far are in the copy
abbrev pub invariant-loop-nsec : goal.invariant-loop-nsec
invariant-loop-nsec l = l.nsecs.items ≡ take l.nsec-index l.self
