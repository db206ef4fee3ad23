-- Zones, their answers, and true NSEC records (RFC 1034, 4.2 and 4.3.2; RFC 4034, 4; RFC 4592; RFC 6672).
use Rattle.std.specs.Prelude.{◌≡◌, ℕ, Bool, true, not, ◌==◌, ◌&&◌, ◌||◌, List, [], ◌∷◌, Option, None, Some, if◌then◌else◌}
use Rattle.std.specs.List.{list_any, list_all, find}
use Rattle.std.specs.Ordering.{is_lt}
use Rattle.dns_model.specs.Names.{Labels, name_eq, name_cmp, at_or_above, strictly_above, star}
use Rattle.dns_model.specs.Shapes.{bitmap_has}
use Rattle.dns_model.specs.Types.{type_ns, type_soa, type_cname, type_ds, type_rrsig, type_nsec, type_nsec3, type_dname}
use Rattle.dns_model.specs.Owned.{OwnedNsec}

-- ---- what a zone holds

-- an RRset, by its owner and type (RFC 2181, 5)
pub record SetKey : Type 0 where
  pub owner : Labels
  pub rtype : ℕ

-- a zone by its apex and RRsets, without the records of its signing and the addresses below its cuts (RFC 1034, 4.2; RFC 4035, 2)
pub record Zone : Type 0 where
  pub apex : Labels
  pub sets : List SetKey

-- the name owns an RRset of the type
unfoldable pub has_set : Zone → Labels → ℕ → Bool
has_set zone name rtype = list_any (λ set. name_eq set.owner name && (set.rtype == rtype)) zone.sets

-- the name owns an RRset
unfoldable pub is_owner : Zone → Labels → Bool
is_owner zone name = list_any (λ set. name_eq set.owner name) zone.sets

-- NS below the apex make a zone cut (RFC 1034, 4.2.1)
unfoldable pub is_delegation : Zone → Labels → Bool
is_delegation zone name = has_set zone name type_ns && not (name_eq name zone.apex)

-- a name of the zone exists where it or a name below it is an owner (RFC 4592, 2.2.2 and 2.2.3)
unfoldable pub exists_in : Zone → Labels → Bool
exists_in zone name = at_or_above zone.apex name && list_any (λ set. at_or_above name set.owner) zone.sets

-- the types of records that a signing adds (RFC 4035, 2.2 and 2.3; RFC 5155, 7.1)
abbrev pub is_signing_type : ℕ → Bool
is_signing_type rtype = (rtype == type_rrsig) || (rtype == type_nsec) || (rtype == type_nsec3)

-- ---- which zones are well formed

-- the zone ends at the name: below a cut lies another zone (RFC 1034, 4.2.1), below DNAME nothing (RFC 6672, 2.4)
abbrev pub zone_ends_at : Zone → Labels → Bool
zone_ends_at zone name = is_delegation zone name || has_set zone name type_dname

-- an RRset's place and type fit
abbrev pub fits_in : Zone → SetKey → Bool
fits_in zone set =
    -- it is at or below the apex (RFC 1034, 4.2)
    at_or_above zone.apex set.owner
    -- it comes of no signing
    && (not (is_signing_type set.rtype)
    -- SOA is at the apex alone (RFC 1034, 4.2.1)
    && ((not (set.rtype == type_soa) || name_eq set.owner zone.apex)
    -- a delegation has NS and DS alone (RFC 4035, 2.4 and 2.6)
    && ((not (is_delegation zone set.owner) || (set.rtype == type_ns) || (set.rtype == type_ds))
    -- nothing is below the end of the zone
    && (not (zone_ends_at zone set.owner) || list_all (λ other. not (strictly_above set.owner other.owner)) zone.sets))))

-- SOA and NS stand at the apex (RFC 1034, 4.2.1; RFC 1035, 5.2), and each RRset fits
unfoldable pub is_zone : Zone → Bool
is_zone zone = has_set zone zone.apex type_soa && (has_set zone zone.apex type_ns && list_all (fits_in zone) zone.sets)

-- ---- how a zone answers (RFC 1034, 4.3.2)

pub data ZoneAnswer : Type 0 where
  -- the zone below this cut answers
  Referral : (cut : Labels) → ZoneAnswer
  -- RRsets, or by CNAME or DNAME another name
  Data : ZoneAnswer
  -- the name exists, without the type
  NoData : ZoneAnswer
  NxDomain : ZoneAnswer

-- a cut on the way down to the name (step 3 b); DS stand in the zone above it (RFC 4035, 3.1.4.1)
abbrev pub is_cut_over : Zone → Labels → ℕ → SetKey → Bool
is_cut_over zone name rtype set =
    is_delegation zone set.owner && (strictly_above set.owner name || (name_eq set.owner name && not (rtype == type_ds)))

-- DNAME on the way down stands for all names below it (RFC 6672, 2.2 and 3.2)
abbrev pub is_dname_over : Labels → SetKey → Bool
is_dname_over name set = (set.rtype == type_dname) && strictly_above set.owner name

-- the type, or CNAME in its place (step 3 a; RFC 1034, 3.6.2)
abbrev pub has_data : Zone → Labels → ℕ → Bool
has_data zone name rtype = has_set zone name rtype || has_set zone name type_cname

-- the closest encloser: the longest ancestor that exists (RFC 4592, 3.3.1)
unfoldable pub encloser : Zone → Labels → Labels
encloser zone [] = []
encloser zone (label ∷ name) = if exists_in zone (label ∷ name) then label ∷ name else encloser zone name

-- the wildcard below the closest encloser, if it exists, answers in the name's place (step 3 c; RFC 4592, 3.3.1)
unfoldable pub from_wildcard : Zone → Labels → ℕ → ZoneAnswer
from_wildcard zone wildcard rtype =
    -- NS there (RFC 4592, 4.2)
    if is_delegation zone wildcard then Referral wildcard
    -- DNAME there (RFC 4592, 4.4; RFC 6672, 3.3)
    else if has_data zone wildcard rtype || has_set zone wildcard type_dname then Data
    -- no RRset of the type, or none at all (RFC 4592, 3.3.3 and 4.9)
    else if exists_in zone wildcard then NoData
    else NxDomain

abbrev pub below_cut : Option SetKey → ZoneAnswer → ZoneAnswer
below_cut (Some set) answer = Referral set.owner
below_cut None answer = answer

-- what a zone answers for a name at or below its apex
unfoldable pub lookup : Zone → Labels → ℕ → ZoneAnswer
lookup zone name rtype = below_cut (find (is_cut_over zone name rtype) zone.sets) (
    if list_any (is_dname_over name) zone.sets then Data
    else if exists_in zone name then if has_data zone name rtype then Data else NoData
    else from_wildcard zone (star (encloser zone name)) rtype)

-- ---- when an NSEC record is true (RFC 4034, 4)

-- no owner comes after the name in canonical order (RFC 4034, 6.1)
unfoldable pub is_last : Zone → Labels → Bool
is_last zone name = list_all (λ set. not (is_lt (name_cmp name set.owner))) zone.sets

-- no owner comes after the one name and before the other
unfoldable pub none_between : Zone → Labels → Labels → Bool
none_between zone name next =
    list_all (λ set. not (is_lt (name_cmp name set.owner) && is_lt (name_cmp set.owner next))) zone.sets

-- the next name is the owner that comes next, and after the last one the apex (RFC 4034, 4.1.1)
unfoldable pub is_next : Zone → Labels → Labels → Bool
is_next zone name next =
    if is_last zone name then name_eq next zone.apex
    else is_owner zone next && (is_lt (name_cmp name next) && none_between zone name next)

pub record IsTrueNsec (zone : Zone) (nsec : OwnedNsec) : Type 0 where
  pub owner : is_owner zone nsec.owner ≡ true
  -- the bits are the owner's types; those of NSEC and RRSIG are set at every owner (RFC 4034, 4.1.2; RFC 4035, 2.2 and 2.3)
  pub types : (rtype : ℕ)
      → has_set zone nsec.owner rtype ≡ (bitmap_has nsec.fields.types rtype && not ((rtype == type_nsec) || (rtype == type_rrsig)))
  pub next : is_next zone nsec.owner nsec.fields.next ≡ true
