-- What tells the sets of a cache apart (RFC 4035, 4.5; RFC 2181, 5): the question whose answer they stand in, with its name folded,
-- and each record and signature byte for byte, but for ttls and marks.
use Rattle.std.specs.Prelude.{ℕ, Bool, ◌==◌, ◌&&◌, nat_eq, List, map}
use Rattle.std.specs.Cmp.Lexicographic.{pointwise}
use Rattle.dns_model.specs.Names.{folded, wire}
use Rattle.dns_model.specs.Keys.{bytes_eq}
use Rattle.dns_model.specs.Records.{Question, Rr, RrSet}

-- a record without its ttl and its mark
pub record RecordBytes : Type 0 where
  -- the wire form of the owner's name, in the case in which it came
  pub owner : List ℕ
  pub rtype : ℕ
  pub class : ℕ
  pub rdata : List ℕ

pub record CacheKeyValue : Type 0 where
  pub query : Question
  pub records : List RecordBytes
  pub signatures : List RecordBytes

abbrev pub bytes_of : Rr → RecordBytes
bytes_of r = record { owner = wire r.owner; rtype = r.rtype; class = r.class; rdata = r.rdata }

-- A to Z as a to z in the name that is asked for (RFC 4343, 3)
abbrev pub folded_question : Question → Question
folded_question q = record { owner = folded q.owner; rtype = q.rtype; class = q.class }

-- the key of a set that stands in the answer to a question
abbrev pub key_of : Question → RrSet → CacheKeyValue
key_of q set = record {
  query = folded_question q;
  records = map bytes_of set.records;
  signatures = map bytes_of set.signatures;
}

-- ---- equal keys: all of their parts are one

abbrev pub query_eq : Question → Question → Bool
query_eq a b = pointwise (pointwise nat_eq) a.owner b.owner && ((a.rtype == b.rtype) && (a.class == b.class))

abbrev pub record_eq : RecordBytes → RecordBytes → Bool
record_eq a b = bytes_eq a.owner b.owner && ((a.rtype == b.rtype) && ((a.class == b.class) && bytes_eq a.rdata b.rdata))

-- one record with another byte for byte, whatever their ttls and marks
abbrev pub same_bytes : Rr → Rr → Bool
same_bytes a b = record_eq (bytes_of a) (bytes_of b)

abbrev pub key_eq : CacheKeyValue → CacheKeyValue → Bool
key_eq a b = query_eq a.query b.query && (pointwise record_eq a.records b.records && pointwise record_eq a.signatures b.signatures)
