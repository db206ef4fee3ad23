-- For private functions of this crate only: owners and types of sets as keys of an ordered map.
use Rattle.std.specs.Prelude.{ℕ, List, [], Option, None, Some, Vec, slice_get}
use Rattle.std.specs.declared.cmp.Ordering.{Ordering}
use Rattle.std.specs.Ordering.{nat_cmp, ordering_then}
use Rattle.std.specs.Cmp.Lexicographic.{slice_cmp}
use Rattle.std.specs.BTreeMap.{BTreeMap}
use Rattle.dns_model.specs.Names.{folded, wire}
use Rattle.dns_model.specs.Records.{Rr, RrSet}
use Rattle.dns_trail.specs.Places.{places_under}
use Rattle.dns_trail.specs.declared.places.SetKey.{SetKey}

-- the wire form of the owner with A to Z as a to z (RFC 4343, 3), and the type
abbrev pub key_of_record : Rr → SetKey
key_of_record r = record { owner = wire (folded r.owner); record_type = r.rtype }

abbrev pub key_of_first : Option Rr → SetKey
key_of_first None = record { owner = []; record_type = 0 }
key_of_first (Some r) = key_of_record r

-- the key of a set: that of its first record
abbrev pub trail_key_of : RrSet → SetKey
trail_key_of set = key_of_first (slice_get set.records 0)

-- keys in order: by the bytes of the owner, then by type
abbrev pub trail_key_cmp : SetKey → SetKey → Ordering
trail_key_cmp a b = ordering_then (slice_cmp nat_cmp a.owner b.owner) (nat_cmp a.record_type b.record_type)

-- the places under a key
abbrev pub set_places : {Z : Type 0} → BTreeMap SetKey (Vec ℕ Z) → SetKey → List ℕ
set_places places key = places_under trail_key_cmp places key
