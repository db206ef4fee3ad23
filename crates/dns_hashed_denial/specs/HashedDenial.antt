-- What a Secure verdict on NSEC3 records promises of each zone in which they are true (RFC 5155, 6 and 8; RFC 4592).
use Rattle.std.specs.Prelude.{◌≡◌, ◌⊎◌, ℕ, ◌<◌, Bool, true, false, ◌==◌, ◌&&◌, List, length, Option, None, Some}
use Rattle.std.specs.List.{find, list_any, AllByRecursion}
use Rattle.std.specs.Option.{is_none}
use Rattle.dns_model.specs.Names.{Labels, at_or_above, strictly_above, star}
use Rattle.dns_model.specs.Types.{type_ds, code_no_error, code_nx_domain}
use Rattle.dns_model.specs.Records.{Question}
use Rattle.dns_model.specs.Owned.{OwnedNsec3}
use Rattle.dns_rules.specs.DenialInZones.{is_data_type}
use Rattle.dns_rules.specs.NsecVerdict.{holds_query}
use Rattle.dns_rules.specs.Nsec3Covering.{is_considered, is_opt_out, nsec3_matches, nsec3_spans}
use Rattle.dns_rules.specs.Nsec3Verdict.{Parameters, parameters_in, parameters_of, hashed, provable_encloser, may_be_unsigned}
use Rattle.dns_rules.specs.Zones.{Zone, has_set, is_delegation, exists_in, is_zone, lookup, Referral, NoData, NxDomain}
use Rattle.dns_hashed_denial.specs.HashedZones.{Hashing, is_unsigned_delegation, is_light, IsTrueNsec3, IsCollisionFree}

-- ---- the zones that are spoken of

-- the record's own hash: with its salt and its iterations
abbrev pub hash_of : OwnedNsec3 → Hashing
hash_of nsec3 = hashed (parameters_in nsec3)

-- the record is true, and tells apart the names that a denial of this one is about
pub record IsTrueFor (zone : Zone) (name : Labels) (by : Parameters) (nsec3 : OwnedNsec3) : Type 0 where
  pub is_true : IsTrueNsec3 (hashed by) zone nsec3
  pub apart : IsCollisionFree (hashed by) zone name

abbrev pub IfCounting : Zone → Labels → OwnedNsec3 → Type 0
IfCounting zone name nsec3 = is_considered nsec3 ≡ true → IsTrueFor zone name (parameters_in nsec3) nsec3

-- a well-formed zone in which each of the records that count is true. Its apex is theirs, since they stand right below it
pub record IsShownByHashes (nsec3s : List OwnedNsec3) (name : Labels) (zone : Zone) : Type 0 where
  pub formed : is_zone zone ≡ true
  pub each : AllByRecursion (IfCounting zone name) nsec3s

-- ---- what opt-out leaves open

-- one of the records covers the name, and its flag Opt-Out is set (RFC 5155, 6)
abbrev pub is_opted_out : List OwnedNsec3 → Labels → Bool
is_opted_out nsec3s name = list_any (λ nsec3. is_opt_out nsec3 && nsec3_spans (hash_of nsec3 name) nsec3) nsec3s

-- the name is at or below one of the zone that is opted out
pub record IsBelowOptOut (nsec3s : List OwnedNsec3) (zone : Zone) (name : Labels) : Type 0 where
  pub covered : Labels
  pub inside : at_or_above zone.apex covered ≡ true
  pub below : at_or_above covered name ≡ true
  pub opted_out : is_opted_out nsec3s covered ≡ true

-- the name doesn't exist, or is light where names are opted out
pub data IsMissing (nsec3s : List OwnedNsec3) (zone : Zone) (name : Labels) : Type 0 where
  Absent : exists_in zone name ≡ false → IsMissing nsec3s zone name
  Light : is_light zone name ≡ true → IsBelowOptOut nsec3s zone name → IsMissing nsec3s zone name

-- ---- no data

-- the zone has no data for the query, or with no error it leads on to a zone that isn't signed, where names are opted out
pub data IsUnanswered (query : Question) (code : ℕ) (nsec3s : List OwnedNsec3) (zone : Zone) : Type 0 where
  WithoutType : lookup zone query.owner query.rtype ≡ NoData → IsUnanswered query code nsec3s zone
  WithoutName : lookup zone query.owner query.rtype ≡ NxDomain → IsUnanswered query code nsec3s zone
  ToUnsigned : (cut : Labels) → lookup zone query.owner query.rtype ≡ Referral cut
      → is_unsigned_delegation zone cut ≡ true → IsBelowOptOut nsec3s zone cut → code ≡ code_no_error
      → IsUnanswered query code nsec3s zone

abbrev pub is_by_opt_out_with : Question → Labels → List OwnedNsec3 → Option Parameters → Bool
is_by_opt_out_with query apex nsec3s None = false
is_by_opt_out_with query apex nsec3s (Some by) =
    is_none (find (nsec3_matches (hashed by query.owner)) nsec3s)
    && may_be_unsigned by nsec3s query.owner (provable_encloser by apex nsec3s query.owner)

-- a DS is denied by opt-out alone: no record matches the name, and one with the flag covers the next closer name
-- (RFC 5155, 8.6)
abbrev pub is_by_opt_out : Question → Labels → List OwnedNsec3 → Bool
is_by_opt_out query apex nsec3s =
    (query.rtype == type_ds) && is_by_opt_out_with query apex nsec3s (parameters_of nsec3s)

-- the zone holds the query, and has nothing for it; where DS is denied by opt-out alone, no more is said than that none
-- is there. Where the code is a name error, the name doesn't exist
pub record HasNoneByHashes (query : Question) (apex : Labels) (code : ℕ) (nsec3s : List OwnedNsec3) (zone : Zone)
    : Type 0 where
  pub holds : holds_query zone.apex query ≡ true
  pub answer : is_by_opt_out query apex nsec3s ≡ false → IsUnanswered query code nsec3s zone
  pub ds : query.rtype ≡ type_ds → has_set zone query.owner type_ds ≡ false
  pub name : code ≡ code_nx_domain → exists_in zone query.owner ≡ false

-- a denial holds in each such zone
abbrev pub IsDeniedByHashes : Question → Labels → ℕ → List OwnedNsec3 → Type 0
IsDeniedByHashes query apex code nsec3s =
    is_data_type query.rtype ≡ true → (zone : Zone) → IsShownByHashes nsec3s query.owner zone
    → HasNoneByHashes query apex code nsec3s zone

-- ---- no closer name

-- neither this name nor the wildcard below it is in the zone, light names aside where names are opted out
pub record IsMissingWithWildcard (nsec3s : List OwnedNsec3) (zone : Zone) (name : Labels) : Type 0 where
  pub itself : IsMissing nsec3s zone name
  pub wildcard : IsMissing nsec3s zone (star name)

-- the name isn't in the zone, and neither is any ancestor of it with more labels, but for light ones as above
pub record HasNoneCloserByHashes (nsec3s : List OwnedNsec3) (name : Labels) (labels : ℕ) (zone : Zone) : Type 0 where
  pub itself : IsMissingWithWildcard nsec3s zone name
  pub ancestors : (ancestor : Labels) → at_or_above ancestor name ≡ true → labels < length ancestor
      → IsMissingWithWildcard nsec3s zone ancestor

-- an expansion from the wildcard below the name's last labels, this many, is right in each such zone
abbrev pub IsExpandedByHashes : Question → ℕ → List OwnedNsec3 → Type 0
IsExpandedByHashes query labels nsec3s =
    is_data_type query.rtype ≡ true → (zone : Zone) → IsShownByHashes nsec3s query.owner zone
    → HasNoneCloserByHashes nsec3s query.owner labels zone

-- ---- no signed delegation

-- the child is at or below a name that is opted out, and doesn't exist or is light
pub record IsHiddenByOptOut (nsec3s : List OwnedNsec3) (child : Labels) (zone : Zone) : Type 0 where
  pub below : IsBelowOptOut nsec3s zone child
  pub missing : IsMissing nsec3s zone child

-- the child is an unsigned delegation of the zone, or opt-out hides it. Either way it has no DS, and no delegation at or
-- above it has
pub record IsUnsignedByHashes (nsec3s : List OwnedNsec3) (child : Labels) (zone : Zone) : Type 0 where
  pub holds : strictly_above zone.apex child ≡ true
  pub shown : (is_unsigned_delegation zone child ≡ true) ⊎ IsHiddenByOptOut nsec3s child zone
  pub ds : has_set zone child type_ds ≡ false
  pub cuts : (cut : Labels) → is_delegation zone cut ≡ true → at_or_above cut child ≡ true
      → has_set zone cut type_ds ≡ false

-- this is so of a child in each such zone
abbrev pub IsInsecureByHashes : Labels → List OwnedNsec3 → Type 0
IsInsecureByHashes child nsec3s =
    (zone : Zone) → IsShownByHashes nsec3s child zone → IsUnsignedByHashes nsec3s child zone
