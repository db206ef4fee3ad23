-- A zone with each kind of answer, worked out, and what isn't a zone.
use Rattle.std.specs.Prelude.{◌≡◌, ℕ, Bool, true, false, not, ◌&&◌, [], ◌∷◌, ◌++◌, refl}
use Rattle.dns_model.specs.Names.{Label, Labels, star}
use Rattle.dns_model.specs.Types.{type_a, type_ns, type_soa, type_cname, type_ds, type_nsec, type_dname}
use Rattle.dns_rules.specs.Zones.{Zone, has_set, is_owner, is_delegation, exists_in, is_zone, encloser, from_wildcard, lookup, is_last, none_between, is_next, Referral, Data, NoData, NxDomain}

-- DS beside the NS of a zone cut, and the zone below is signed (RFC 4035, 2.4)
abbrev is_signed_delegation : Zone → Labels → Bool
is_signed_delegation zone name = is_delegation zone name && has_set zone name type_ds

abbrev is_unsigned_delegation : Zone → Labels → Bool
is_unsigned_delegation zone name = is_delegation zone name && not (has_set zone name type_ds)

-- ---- the zone `example.`

abbrev pub letter : ℕ → Label
letter n = n ∷ []

-- `example.`, by one letter
abbrev pub apex : Labels
apex = letter 101 ∷ []

-- a name right below the apex, by one letter
abbrev pub below : ℕ → Labels
below n = letter n ∷ apex

-- `a`: an address; `c`: CNAME; `d`: DNAME; `s` and `u`: a signed and an unsigned delegation; `n`: no owner, above `*.x.n`
-- with an address; `*.w`: an address; `*.p`: a delegation; `*.q`: DNAME
abbrev pub zone : Zone
zone = record {
  apex = apex;
  sets =
      record { owner = apex; rtype = type_soa } ∷ record { owner = apex; rtype = type_ns } ∷ record { owner = below 97; rtype = type_a }
      ∷ record { owner = below 99; rtype = type_cname } ∷ record { owner = below 100; rtype = type_dname }
      ∷ record { owner = below 115; rtype = type_ns } ∷ record { owner = below 115; rtype = type_ds } ∷ record {
        owner =
            below 117;
        rtype = type_ns;
      }
      ∷ record { owner = star (letter 120 ∷ below 110); rtype = type_a } ∷ record { owner = star (below 119); rtype = type_a }
      ∷ record { owner = star (below 112); rtype = type_ns } ∷ record { owner = star (below 113); rtype = type_dname } ∷ [];
}

pub well_formed : is_zone zone ≡ true
unfolding is_zone has_set is_delegation
well_formed = refl

-- ---- the apex

pub apex_has_soa : lookup zone apex type_soa ≡ Data
unfolding lookup from_wildcard encloser has_set is_delegation exists_in
apex_has_soa = refl

pub apex_has_no_address : lookup zone apex type_a ≡ NoData
unfolding lookup from_wildcard encloser has_set is_delegation exists_in
apex_has_no_address = refl

pub apex_in_upper_case : lookup zone (letter 69 ∷ []) type_ns ≡ Data
unfolding lookup from_wildcard encloser has_set is_delegation exists_in
apex_in_upper_case = refl

-- ---- names below the apex

pub address : lookup zone (below 97) type_a ≡ Data
unfolding lookup from_wildcard encloser has_set is_delegation exists_in
address = refl

pub no_ds : lookup zone (below 97) type_ds ≡ NoData
unfolding lookup from_wildcard encloser has_set is_delegation exists_in
no_ds = refl

pub cname : lookup zone (below 99) type_a ≡ Data
unfolding lookup from_wildcard encloser has_set is_delegation exists_in
cname = refl

pub no_such_name : lookup zone (below 98) type_a ≡ NxDomain
unfolding lookup from_wildcard encloser has_set is_delegation exists_in
no_such_name = refl

pub below_an_address : lookup zone (letter 98 ∷ below 97) type_a ≡ NxDomain
unfolding lookup from_wildcard encloser has_set is_delegation exists_in
below_an_address = refl

pub encloser_below_an_address : encloser zone (letter 98 ∷ letter 98 ∷ below 97) ≡ below 97
unfolding lookup from_wildcard encloser has_set is_delegation exists_in
encloser_below_an_address = refl

-- ---- an empty non-terminal

pub non_terminal_exists : exists_in zone (below 110) ≡ true
unfolding lookup from_wildcard encloser has_set is_delegation exists_in
non_terminal_exists = refl

pub non_terminal : lookup zone (below 110) type_a ≡ NoData
unfolding lookup from_wildcard encloser has_set is_delegation exists_in
non_terminal = refl

pub no_owner : is_owner zone (below 110) ≡ false
unfolding is_owner
no_owner = refl

pub below_non_terminal : lookup zone (letter 98 ∷ below 110) type_a ≡ NxDomain
unfolding lookup from_wildcard encloser has_set is_delegation exists_in
below_non_terminal = refl

-- ---- delegations

pub signed : is_signed_delegation zone (below 115) ≡ true
unfolding lookup from_wildcard encloser has_set is_delegation exists_in
signed = refl

pub unsigned : is_unsigned_delegation zone (below 117) ≡ true
unfolding lookup from_wildcard encloser has_set is_delegation exists_in
unsigned = refl

pub apex_is_no_delegation : is_delegation zone apex ≡ false
unfolding lookup from_wildcard encloser has_set is_delegation exists_in
apex_is_no_delegation = refl

pub referral : lookup zone (below 115) type_ns ≡ Referral (below 115)
unfolding lookup from_wildcard encloser has_set is_delegation exists_in
referral = refl

pub referral_below : lookup zone (letter 98 ∷ below 115) type_a ≡ Referral (below 115)
unfolding lookup from_wildcard encloser has_set is_delegation exists_in
referral_below = refl

pub ds_of_signed : lookup zone (below 115) type_ds ≡ Data
unfolding lookup from_wildcard encloser has_set is_delegation exists_in
ds_of_signed = refl

pub ds_of_unsigned : lookup zone (below 117) type_ds ≡ NoData
unfolding lookup from_wildcard encloser has_set is_delegation exists_in
ds_of_unsigned = refl

pub ds_below_unsigned : lookup zone (letter 98 ∷ below 117) type_ds ≡ Referral (below 117)
unfolding lookup from_wildcard encloser has_set is_delegation exists_in
ds_below_unsigned = refl

-- ---- DNAME

-- DNAME tells nothing of its own owner
pub at_dname : lookup zone (below 100) type_a ≡ NoData
unfolding lookup from_wildcard encloser has_set is_delegation exists_in
at_dname = refl

pub below_dname : lookup zone (letter 98 ∷ letter 98 ∷ below 100) type_a ≡ Data
unfolding lookup from_wildcard encloser has_set is_delegation exists_in
below_dname = refl

-- ---- wildcards

pub from_a_wildcard : lookup zone (letter 98 ∷ below 119) type_a ≡ Data
unfolding lookup from_wildcard encloser has_set is_delegation exists_in
from_a_wildcard = refl

pub from_a_wildcard_two_below : lookup zone (letter 98 ∷ letter 98 ∷ below 119) type_a ≡ Data
unfolding lookup from_wildcard encloser has_set is_delegation exists_in
from_a_wildcard_two_below = refl

pub no_data_at_a_wildcard : lookup zone (letter 98 ∷ below 119) type_ds ≡ NoData
unfolding lookup from_wildcard encloser has_set is_delegation exists_in
no_data_at_a_wildcard = refl

pub above_a_wildcard : lookup zone (below 119) type_a ≡ NoData
unfolding lookup from_wildcard encloser has_set is_delegation exists_in
above_a_wildcard = refl

-- the wildcard exists, and so what is below it is not its to answer (RFC 4592, 2.2.1)
pub below_a_wildcard : lookup zone (letter 98 ∷ star (below 119)) type_a ≡ NxDomain
unfolding lookup from_wildcard encloser has_set is_delegation exists_in
below_a_wildcard = refl

pub from_an_inner_wildcard : lookup zone (letter 98 ∷ letter 120 ∷ below 110) type_a ≡ Data
unfolding lookup from_wildcard encloser has_set is_delegation exists_in
from_an_inner_wildcard = refl

pub from_a_delegation : lookup zone (letter 98 ∷ below 112) type_a ≡ Referral (star (below 112))
unfolding lookup from_wildcard encloser has_set is_delegation exists_in
from_a_delegation = refl

pub below_a_delegation : lookup zone (letter 98 ∷ star (below 112)) type_a ≡ Referral (star (below 112))
unfolding lookup from_wildcard encloser has_set is_delegation exists_in
below_a_delegation = refl

pub from_dname : lookup zone (letter 98 ∷ below 113) type_a ≡ Data
unfolding lookup from_wildcard encloser has_set is_delegation exists_in
from_dname = refl

-- ---- what is no zone

-- the zone with one RRset more
abbrev pub with : Labels → ℕ → Zone
with owner rtype = record { apex = apex; sets = zone.sets ++ record { owner = owner; rtype = rtype } ∷ [] }

pub another_address : is_zone (with (below 98) type_a) ≡ true
unfolding is_zone has_set is_delegation
another_address = refl

pub outside : is_zone (with (letter 97 ∷ []) type_a) ≡ false
unfolding is_zone has_set is_delegation
outside = refl

pub second_soa : is_zone (with (below 97) type_soa) ≡ false
unfolding is_zone has_set is_delegation
second_soa = refl

pub signing : is_zone (with (below 97) type_nsec) ≡ false
unfolding is_zone has_set is_delegation
signing = refl

pub address_at_a_cut : is_zone (with (below 117) type_a) ≡ false
unfolding is_zone has_set is_delegation
address_at_a_cut = refl

pub owner_below_a_cut : is_zone (with (letter 98 ∷ below 117) type_a) ≡ false
unfolding is_zone has_set is_delegation
owner_below_a_cut = refl

pub owner_below_dname : is_zone (with (letter 98 ∷ below 100) type_a) ≡ false
unfolding is_zone has_set is_delegation
owner_below_dname = refl

pub no_apex : is_zone (record { apex = apex; sets = [] }) ≡ false
unfolding is_zone has_set is_delegation
no_apex = refl

-- ---- the next owner

pub after_the_apex : is_next zone apex (below 97) ≡ true
unfolding is_next is_last none_between is_owner
after_the_apex = refl

-- the empty non-terminals between are no owners
pub after_dname : is_next zone (below 100) (star (letter 120 ∷ below 110)) ≡ true
unfolding is_next is_last none_between is_owner
after_dname = refl

pub one_left_out : is_next zone (below 97) (below 100) ≡ false
unfolding is_next is_last none_between is_owner
one_left_out = refl

pub after_the_last : is_next zone (star (below 119)) apex ≡ true
unfolding is_next is_last none_between is_owner
after_the_last = refl

pub back_too_early : is_next zone (below 117) apex ≡ false
unfolding is_next is_last none_between is_owner
back_too_early = refl
