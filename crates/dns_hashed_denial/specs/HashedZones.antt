-- NSEC3 records that are true of a zone, and the names that opt-out leaves without one (RFC 5155, 3, 6 and 7.1). How
-- names are hashed is left open, so that a zone can be worked out by a small hash.
use Rattle.std.specs.Prelude.{◌≡◌, ℕ, Bool, true, not, ◌==◌, ◌&&◌, ◌||◌, List}
use Rattle.std.specs.List.{list_all}
use Rattle.dns_model.specs.Names.{Labels, name_eq, at_or_above, parent, is_wildcard}
use Rattle.dns_model.specs.Shapes.{bitmap_has}
use Rattle.dns_model.specs.Types.{type_ds, type_rrsig}
use Rattle.dns_model.specs.Owned.{OwnedNsec3}
use Rattle.dns_rules.specs.Nsec3Covering.{is_opt_out, owner_hash, lies_between}
use Rattle.dns_rules.specs.Zones.{SetKey, Zone, has_set, is_delegation, exists_in}

-- a hash of names
abbrev pub Hashing : Type 0
Hashing = Labels → List ℕ

-- ---- names that opt-out leaves out

-- a delegation to a zone that isn't signed has no DS (RFC 4035, 2.4; RFC 5155, 6)
abbrev pub is_unsigned_delegation : Zone → Labels → Bool
is_unsigned_delegation zone name = is_delegation zone name && not (has_set zone name type_ds)

-- if the owner is at or below the name, it is an unsigned delegation
abbrev pub is_unsigned_below : Zone → Labels → SetKey → Bool
is_unsigned_below zone name set = not (at_or_above name set.owner) || is_unsigned_delegation zone set.owner

-- light: the name exists, and each owner at or below it is an unsigned delegation. It is one itself, or an empty
-- non-terminal that only such delegations make. No other name may go without a record of its own (RFC 5155, 7.1)
unfoldable pub is_light : Zone → Labels → Bool
is_light zone name = exists_in zone name && list_all (is_unsigned_below zone name) zone.sets

-- ---- when an NSEC3 record is true

pub record IsTrueNsec3 (hash : Hashing) (zone : Zone) (nsec3 : OwnedNsec3) : Type 0 where
  -- its owner stands right below the apex (RFC 5155, 3)
  pub place : name_eq (parent nsec3.owner) zone.apex ≡ true
  -- its original owner name: a name of the zone, whose hash the owner's first label is (RFC 5155, 1.3 and 3)
  pub original : Labels
  pub there : exists_in zone original ≡ true
  pub hashed : hash original ≡ owner_hash nsec3
  -- the bits are the types at the original owner name, none at an empty non-terminal; that of RRSIG tells nothing
  -- (RFC 5155, 3.2.1 and 7.1)
  pub types : (rtype : ℕ)
      → has_set zone original rtype ≡ (bitmap_has nsec3.fields.types rtype && not (rtype == type_rrsig))
  -- the hash of no other name comes before the next hash in hash order (RFC 5155, 3.1.7), but of light names where the
  -- flag Opt-Out is set (RFC 5155, 3.1.2.1 and 6)
  pub between : (name : Labels) → exists_in zone name ≡ true
      → lies_between (owner_hash nsec3) nsec3.fields.next (hash name) ≡ true
      → (is_opt_out nsec3 && is_light zone name) ≡ true

-- ---- names whose hashes differ

-- the other name is at or below the apex, and at or above the name
abbrev pub is_toward : Zone → Labels → Labels → Bool
is_toward zone name other = at_or_above zone.apex other && at_or_above other name

-- the names that a denial of a name is about: those that exist in the zone, the name, its ancestors up to the apex, and
-- the wildcards right below it and these (RFC 5155, 8.4 to 8.8)
unfoldable pub is_concerned : Zone → Labels → Labels → Bool
is_concerned zone name other =
    exists_in zone other
    || (is_toward zone name other || (is_wildcard other && is_toward zone name (parent other)))

-- no two different names of these have one hash (RFC 5155, 7.1, 7.2.9 and C.2)
pub record IsCollisionFree (hash : Hashing) (zone : Zone) (name : Labels) : Type 0 where
  pub apart : (one two : Labels) → is_concerned zone name one ≡ true → is_concerned zone name two ≡ true
      → hash one ≡ hash two → name_eq one two ≡ true
