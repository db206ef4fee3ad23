use Rattle.std.proofs.Common.{◌≡◌, take}
use Rattle.std.specs.List.{flat_map}
use Rattle.dns_denial_index.specs.HashParts.{hash_keys}
use Rattle.dns_denial_index.proofs.nsec3_index.keys_in.Given as goal

-- the keys of the records so far
abbrev pub invariant-loop-nsec3 : goal.invariant-loop-nsec3
invariant-loop-nsec3 l = l.keys.items ≡ flat_map hash_keys (take l.nsec3-index l.nsec3s)
