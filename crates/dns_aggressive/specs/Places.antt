-- For private functions alone: places in an order in which those of one zone stand together, and in it those of one group.
use Rattle.std.specs.Prelude.{ℕ, List}
use Rattle.std.specs.declared.cmp.Ordering.{Ordering}
use Rattle.std.specs.Ordering.{nat_cmp, ordering_then}
use Rattle.std.specs.Cmp.Lexicographic.{slice_cmp}
use Rattle.std.specs.Borrow.{Bor}
use Rattle.dns_model.specs.Names.{Labels, name_cmp}
use Rattle.dns_aggressive.specs.Records.{KeptValue}
use Rattle.dns_aggressive.specs.Lists.{Place, place_of}

abbrev pub Key : Type 0
Key = Bor Labels × ℕ × ℕ × Bor (List ℕ) × Bor Labels

abbrev pub key_place : Key → Place
key_place key = record { zone = key.0.now; owner = key.4.now; rtype = key.1; iterations = key.2; salt = key.3.now }

-- by the zone, the type, and how owners are hashed
abbrev pub group_cmp : Place → Place → Ordering
group_cmp a b =
    ordering_then (ordering_then (ordering_then (name_cmp a.zone b.zone) (nat_cmp a.rtype b.rtype))
    (nat_cmp a.iterations b.iterations)) (slice_cmp nat_cmp a.salt b.salt)

-- within a group by the owner, names as in canonical order
abbrev pub place_cmp : Place → Place → Ordering
place_cmp a b = ordering_then (group_cmp a b) (name_cmp a.owner b.owner)

abbrev pub record_cmp : KeptValue → KeptValue → Ordering
record_cmp one two = place_cmp (place_of one) (place_of two)
