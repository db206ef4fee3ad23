-- The order of keys, and what a hasher is fed of them (RFC 4034, 6.1, for the name that is asked for).
use Rattle.std.specs.Prelude.{ℕ, List, ◌∷◌, [], ◌++◌, length}
use Rattle.std.specs.List.{flat_map}
use Rattle.std.specs.declared.cmp.Ordering.{Ordering}
use Rattle.std.specs.Ordering.{nat_cmp, ordering_then}
use Rattle.std.specs.Cmp.Lexicographic.{slice_cmp}
use Rattle.std.specs.Hash as fed
use Rattle.std.specs.Hash.{HashWrites}
use Rattle.dns_model.specs.Names.{labels_cmp, wire}
use Rattle.dns_model.specs.Records.{Question}
use Rattle.dns_rules.specs.CacheKeys.{RecordBytes, CacheKeyValue}

-- by name in canonical order, whose letters are folded already, by type, by class
abbrev pub query_cmp : Question → Question → Ordering
query_cmp a b =
    ordering_then (labels_cmp a.owner b.owner) (ordering_then (nat_cmp a.rtype b.rtype) (nat_cmp a.class b.class))

-- by the bytes of the owner, by type, by class, by the bytes of the rdata
abbrev pub record_cmp : RecordBytes → RecordBytes → Ordering
record_cmp a b =
    ordering_then (slice_cmp nat_cmp a.owner b.owner)
    (ordering_then (nat_cmp a.rtype b.rtype) (ordering_then (nat_cmp a.class b.class) (slice_cmp nat_cmp a.rdata b.rdata)))

-- by question, by records, by signatures
abbrev pub key_cmp : CacheKeyValue → CacheKeyValue → Ordering
key_cmp a b =
    ordering_then (query_cmp a.query b.query)
    (ordering_then (slice_cmp record_cmp a.records b.records) (slice_cmp record_cmp a.signatures b.signatures))

-- ---- what a hasher is fed: each part with its length, so that no two keys feed it the same bytes in a row

abbrev pub query_input : Question → HashWrites
query_input q = flat_map fed.u8 (wire q.owner) ++ (fed.u16 q.rtype ++ fed.u16 q.class)

-- how many bytes, and then all in one piece
abbrev pub bytes_input : List ℕ → HashWrites
bytes_input bytes = fed.usize (length bytes) ++ bytes ∷ []

abbrev pub record_input : RecordBytes → HashWrites
record_input r = bytes_input r.owner ++ (fed.u16 r.rtype ++ (fed.u16 r.class ++ bytes_input r.rdata))

abbrev pub key_input : CacheKeyValue → HashWrites
key_input key = query_input key.query ++ (fed.slice record_input key.records ++ fed.slice record_input key.signatures)
