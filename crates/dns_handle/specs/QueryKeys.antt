-- Questions as keys: name, type and class (RFC 1035, 4.1.2), and the name with its letters folded (RFC 1034, 3.1).
use Rattle.std.specs.declared.cmp.Ordering.{Ordering}
use Rattle.std.specs.Ordering.{nat_cmp, ordering_then}
use Rattle.std.specs.Cmp.Lexicographic.{slice_cmp}
use Rattle.dns_model.specs.Names.{folded, wire}
use Rattle.dns_model.specs.Records.{Question}
use Rattle.dns_handle.specs.declared.query_key.QueryKey.{QueryKey}

-- a question as a key: the wire form of its name with A to Z as a to z (RFC 4343, 3), its type and its class
abbrev pub key_of : Question → QueryKey
key_of q = record { name = wire (folded q.owner); record_type = q.rtype; class = q.class }

-- keys in order: by the bytes of the name, then by type and class
abbrev pub key_cmp : QueryKey → QueryKey → Ordering
key_cmp a b = ordering_then (slice_cmp nat_cmp a.name b.name) (ordering_then (nat_cmp a.record_type b.record_type) (nat_cmp a.class b.class))
