-- Which records a store keeps after a response: of one place the newest, and no more than its limit (RFC 8198, 5.1 and 5.2).
use Rattle.std.specs.Prelude.{ℕ, ◌-◌, Bool, ◌==◌, ◌&&◌, nat_eq, List, [], ◌∷◌, ◌++◌, length, drop, if◌then◌else◌}
use Rattle.std.specs.Cmp.Lexicographic.{pointwise}
use Rattle.std.specs.List.{list_any, Contains}
use Rattle.dns_model.specs.Names.{Labels, name_eq}
use Rattle.dns_model.specs.Types.{type_nsec, type_nsec3}
use Rattle.dns_aggressive.specs.declared.kept.KeptRecord.{KeptRecord}
use Rattle.dns_aggressive.specs.declared.kept.KeptRecord.TheVariants.{Nsec, Nsec3}
use Rattle.dns_aggressive.specs.Records.{KeptValue}

-- where a record stands: its zone, owner and type, and for NSEC3 how its owner is hashed
pub record Place : Type 0 where
  pub zone : Labels
  pub owner : Labels
  pub rtype : ℕ
  pub iterations : ℕ
  pub salt : List ℕ

abbrev pub place_in : Labels → KeptRecord → Place
place_in zone (Nsec nsec) = record { zone = zone; owner = nsec.owner; rtype = type_nsec; iterations = 0; salt = [] }
place_in zone (Nsec3 nsec3) =
    record { zone = zone; owner = nsec3.owner; rtype = type_nsec3; iterations = nsec3.fields.iterations; salt = nsec3.fields.salt }

abbrev pub place_of : KeptValue → Place
place_of kept = place_in kept.zone kept.item

-- names are compared with A to Z folded
abbrev pub is_same : Place → Place → Bool
is_same one two =
    name_eq one.zone two.zone && name_eq one.owner two.owner && (one.rtype == two.rtype) && (one.iterations == two.iterations)
    && pointwise nat_eq one.salt two.salt

abbrev pub same_place : KeptValue → KeptValue → Bool
same_place one two = is_same (place_of one) (place_of two)

-- those with no later one of their place
unfoldable pub latest : List KeptValue → List KeptValue
latest [] = []
latest (kept ∷ later) = if list_any (same_place kept) later then latest later else kept ∷ latest later

-- the last ones, so many at the most
abbrev pub last_of : {X : Type 0} → ℕ → List X → List X
last_of limit xs = drop (length xs - limit) xs

-- what is kept once more records were taken: a new one stands last, in place of one of its place, and the first ones go
abbrev pub kept_after : ℕ → List KeptValue → List KeptValue → List KeptValue
kept_after limit before taken = last_of limit (latest (before ++ taken))

-- each record is one of these others
abbrev pub AreAmong : List KeptValue → List KeptValue → Type 0
AreAmong kept others = (k : KeptValue) → Contains kept k → Contains others k
