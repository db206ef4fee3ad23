-- A zone with opt-out, its true NSEC3 records by a small hash, and records that are false of it, worked out (RFC
-- 5155, 6 and 7.1).
use Rattle.std.proofs.Common.{◌≡◌, ℕ, ◌%◌, true, false, List, [], ◌∷◌, refl, sym, ap, true≢false}
use Rattle.std.specs.Prelude.{sum}
use Rattle.dns_model.specs.Names.{Labels, name_eq, folded, wire, star}
use Rattle.dns_model.specs.Shapes.{bitmap_has, windows_in, window_in}
use Rattle.dns_model.specs.Types.{type_a, type_ns, type_soa, type_ds}
use Rattle.dns_model.specs.Nsec3Hash.{base32hex_bytes}
use Rattle.dns_model.specs.Owned.{OwnedNsec3}
use Rattle.dns_model.proofs.NameLemmas.{name_eq-Decides}
use Rattle.dns_rules.specs.Zones.{Zone, has_set, is_delegation, exists_in, is_zone, encloser, from_wildcard, lookup, Referral, Data, NoData, NxDomain}
use Rattle.dns_rules.proofs.ExampleZones.{letter, apex, below}
use Rattle.dns_hashed_denial.specs.HashedZones.{Hashing, is_light, IsTrueNsec3}
use Rattle.dns_hashed_denial.proofs.WorkedTruth.{six, six_past, none_past, types_compared, covers_few}

-- ---- the zone `e.`

-- `s`: a signed delegation; `u`, `y` and `z`: unsigned ones; `*.w`: an address, below `w` that is no owner; `x.n`:
-- an unsigned
-- delegation, below `n` that is no owner
abbrev pub zone : Zone
zone = record {
  apex = apex;
  sets =
      record { owner = apex; rtype = type_soa } ∷ record { owner = apex; rtype = type_ns } ∷ record
      { owner = below 115; rtype = type_ns }
      ∷ record { owner = below 115; rtype = type_ds } ∷ record { owner = below 117; rtype = type_ns } ∷ record
      { owner = below 121; rtype = type_ns }
      ∷ record { owner = below 122; rtype = type_ns } ∷ record { owner = star (below 119); rtype = type_a }
      ∷ record { owner = letter 120 ∷ below 110; rtype = type_ns } ∷ [];
}

pub well_formed : is_zone zone ≡ true
unfolding is_zone has_set is_delegation
well_formed = refl

-- ---- light names

pub unsigned_is_light : is_light zone (below 121) ≡ true
unfolding is_light exists_in has_set is_delegation
unsigned_is_light = refl

-- an empty non-terminal that an unsigned delegation makes
pub above_unsigned_is_light : is_light zone (below 110) ≡ true
unfolding is_light exists_in has_set is_delegation
above_unsigned_is_light = refl

pub signed_is_not : is_light zone (below 115) ≡ false
unfolding is_light exists_in has_set is_delegation
signed_is_not = refl

-- an empty non-terminal that an address makes
pub above_address_is_not : is_light zone (below 119) ≡ false
unfolding is_light exists_in has_set is_delegation
above_address_is_not = refl

pub apex_is_not : is_light zone apex ≡ false
unfolding is_light exists_in has_set is_delegation
apex_is_not = refl

pub missing_is_not : is_light zone (below 98) ≡ false
unfolding is_light exists_in has_set is_delegation
missing_is_not = refl

-- ---- a name below each

pub below_apex : lookup zone (below 98) type_a ≡ NxDomain
unfolding lookup from_wildcard encloser has_set is_delegation exists_in
below_apex = refl

pub below_signed : lookup zone (letter 98 ∷ below 115) type_a ≡ Referral (below 115)
unfolding lookup from_wildcard encloser has_set is_delegation exists_in
below_signed = refl

pub below_unsigned : lookup zone (letter 98 ∷ below 121) type_a ≡ Referral (below 121)
unfolding lookup from_wildcard encloser has_set is_delegation exists_in
below_unsigned = refl

pub below_above_address : lookup zone (letter 98 ∷ below 119) type_a ≡ Data
unfolding lookup from_wildcard encloser has_set is_delegation exists_in
below_above_address = refl

pub below_wildcard : lookup zone (letter 98 ∷ star (below 119)) type_a ≡ NxDomain
unfolding lookup from_wildcard encloser has_set is_delegation exists_in
below_wildcard = refl

pub below_light : lookup zone (letter 98 ∷ below 110) type_a ≡ NxDomain
unfolding lookup from_wildcard encloser has_set is_delegation exists_in
below_light = refl

pub at_light : lookup zone (below 110) type_a ≡ NoData
unfolding lookup from_wildcard encloser has_set is_delegation exists_in
at_light = refl

-- ---- a small hash

-- four zero bytes, and the bytes of the name summed up, below 31
abbrev pub small : Hashing
small name = 0 ∷ 0 ∷ 0 ∷ 0 ∷ sum (wire (folded name)) % 31 ∷ []

small_alike : (one two : Labels) → name_eq one two ≡ true → small one ≡ small two
small_alike one two same =
    ap (λ (n : Labels). 0 ∷ 0 ∷ 0 ∷ 0 ∷ sum (wire n) % 31 ∷ []) ((name_eq-Decides one two).0 same)

-- the names that exist have these hashes, in order: `s` 1, `u` 3, `w` 5, `y` 7, `z` 8, the apex 9, `*.w` 17, `x.n`
-- 24, `n` 27
abbrev pub record_of : ℕ → ℕ → ℕ → List ℕ → OwnedNsec3
record_of symbol next flags types = record {
  owner = (48 ∷ 48 ∷ 48 ∷ 48 ∷ 48 ∷ 48 ∷ 48 ∷ symbol ∷ []) ∷ apex;
  fields = record {
    hash_algorithm = 1;
    flags = flags;
    iterations = 0;
    salt = [];
    next = 0 ∷ 0 ∷ 0 ∷ 0 ∷ next ∷ [];
    types = types;
  };
}

-- ---- true records

pub at_signed : IsTrueNsec3 small zone (record_of 49 3 0 (six (32 ∷ 0 ∷ 0 ∷ 0 ∷ 0 ∷ 18 ∷ [])))
unfolding is_light exists_in has_set is_delegation base32hex_bytes bitmap_has windows_in window_in
at_signed = record {
  place = refl;
  original = below 115;
  there = refl;
  hashed = refl;
  types = types_compared zone (below 115) (six (32 ∷ 0 ∷ 0 ∷ 0 ∷ 0 ∷ 18 ∷ [])) refl (six_past 32 0 0 0 0 18) refl;
  between = covers_few small zone (record_of 49 3 0 (six (32 ∷ 0 ∷ 0 ∷ 0 ∷ 0 ∷ 18 ∷ []))) small_alike refl;
}

-- an unsigned delegation may have a record all the same
pub at_unsigned : IsTrueNsec3 small zone (record_of 51 5 0 (six (32 ∷ 0 ∷ 0 ∷ 0 ∷ 0 ∷ 0 ∷ [])))
unfolding is_light exists_in has_set is_delegation base32hex_bytes bitmap_has windows_in window_in
at_unsigned = record {
  place = refl;
  original = below 117;
  there = refl;
  hashed = refl;
  types = types_compared zone (below 117) (six (32 ∷ 0 ∷ 0 ∷ 0 ∷ 0 ∷ 0 ∷ [])) refl (six_past 32 0 0 0 0 0) refl;
  between = covers_few small zone (record_of 51 5 0 (six (32 ∷ 0 ∷ 0 ∷ 0 ∷ 0 ∷ 0 ∷ []))) small_alike refl;
}

-- `w` has no types, and its span passes over `y` and `z`
pub over_two : IsTrueNsec3 small zone (record_of 53 9 1 [])
unfolding is_light exists_in has_set is_delegation base32hex_bytes bitmap_has windows_in window_in
over_two = record {
  place = refl;
  original = below 119;
  there = refl;
  hashed = refl;
  types = types_compared zone (below 119) [] refl none_past refl;
  between = covers_few small zone (record_of 53 9 1 []) small_alike refl;
}

pub at_apex : IsTrueNsec3 small zone (record_of 57 17 0 (six (34 ∷ 0 ∷ 0 ∷ 0 ∷ 0 ∷ 2 ∷ [])))
unfolding is_light exists_in has_set is_delegation base32hex_bytes bitmap_has windows_in window_in
at_apex = record {
  place = refl;
  original = apex;
  there = refl;
  hashed = refl;
  types = types_compared zone apex (six (34 ∷ 0 ∷ 0 ∷ 0 ∷ 0 ∷ 2 ∷ [])) refl (six_past 34 0 0 0 0 2) refl;
  between = covers_few small zone (record_of 57 17 0 (six (34 ∷ 0 ∷ 0 ∷ 0 ∷ 0 ∷ 2 ∷ []))) small_alike refl;
}

-- the wildcard has the last record, whose span leads back to the first and passes over `x.n` and `n`
pub at_wildcard : IsTrueNsec3 small zone (record_of 104 1 1 (six (64 ∷ 0 ∷ 0 ∷ 0 ∷ 0 ∷ 2 ∷ [])))
unfolding is_light exists_in has_set is_delegation base32hex_bytes bitmap_has windows_in window_in
at_wildcard = record {
  place = refl;
  original = star (below 119);
  there = refl;
  hashed = refl;
  types = types_compared zone (star (below 119)) (six (64 ∷ 0 ∷ 0 ∷ 0 ∷ 0 ∷ 2 ∷ [])) refl (six_past 64 0 0 0 0 2) refl;
  between = covers_few small zone (record_of 104 1 1 (six (64 ∷ 0 ∷ 0 ∷ 0 ∷ 0 ∷ 2 ∷ []))) small_alike refl;
}

-- ---- false records

-- two unsigned delegations passed over without the flag
pub over_two_without_the_flag : IsTrueNsec3 small zone (record_of 53 9 0 []) → ⊥
unfolding is_light exists_in has_set is_delegation base32hex_bytes
over_two_without_the_flag t = true≢false (sym (t.between (below 121) refl refl))

-- an address passed over with the flag
pub over_an_address : IsTrueNsec3 small zone (record_of 57 1 1 (six (34 ∷ 0 ∷ 0 ∷ 0 ∷ 0 ∷ 2 ∷ []))) → ⊥
unfolding is_light exists_in has_set is_delegation base32hex_bytes
over_an_address t = true≢false (sym (t.between (star (below 119)) refl refl))
