use Rattle.std.proofs.Common.{◌≡◌, take}
use Rattle.std.specs.List.{flat_map}
use Rattle.dns_denial_index.specs.NsecParts.{keys_of}
use Rattle.dns_denial_index.proofs.nsec_index.keys_in.Given as goal

-- the keys of the records so far
abbrev pub invariant-loop-nsec : goal.invariant-loop-nsec
invariant-loop-nsec l = l.keys.items ≡ flat_map keys_of (take l.nsec-index l.nsecs)
