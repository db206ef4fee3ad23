-- What a Secure verdict on NSEC records promises of each zone in which they are true (RFC 4035, 5.3.4 and 5.4; RFC 4592).
use Rattle.std.specs.Prelude.{◌≡◌, ◌⊎◌, ℕ, ◌<◌, Bool, true, false, not, ◌==◌, ◌||◌, ◌/◌, List, length}
use Rattle.std.specs.List.{AllByRecursion}
use Rattle.dns_model.specs.Names.{Labels, name_eq, at_or_above, star}
use Rattle.dns_model.specs.Types.{type_opt}
use Rattle.dns_model.specs.Records.{Question}
use Rattle.dns_model.specs.Owned.{OwnedNsec}
use Rattle.dns_rules.specs.NsecVerdict.{holds_query, code_nx_domain}
use Rattle.dns_rules.specs.Zones.{Zone, is_zone, is_owner, exists_in, is_signing_type, lookup, NoData, NxDomain, IsTrueNsec}

-- the types whose RRsets a zone holds as data: not those of its signing, nor those of queries and of messages (RFC 6895, 3.1)
abbrev pub is_data_type : ℕ → Bool
is_data_type rtype = not (is_signing_type rtype || (rtype == type_opt) || (rtype / 128 == 1))

-- a well-formed zone with this apex in which each of the records is true
pub record IsShownBy (nsecs : List OwnedNsec) (apex : Labels) (zone : Zone) : Type 0 where
  pub formed : is_zone zone ≡ true
  pub apex_is : name_eq zone.apex apex ≡ true
  pub each_true : AllByRecursion (IsTrueNsec zone) nsecs

-- the zone has no data for the query; where the code is a name error, its name doesn't exist
pub record HasNone (query : Question) (code : ℕ) (zone : Zone) : Type 0 where
  pub holds : holds_query zone.apex query ≡ true
  pub answer : (lookup zone query.owner query.rtype ≡ NoData) ⊎ (lookup zone query.owner query.rtype ≡ NxDomain)
  pub name : code ≡ code_nx_domain → exists_in zone query.owner ≡ false

-- neither this name nor the wildcard below it exists in the zone
pub record IsAbsent (zone : Zone) (name : Labels) : Type 0 where
  pub missing : exists_in zone name ≡ false
  pub wildcard : exists_in zone (star name) ≡ false

-- the name is absent from the zone, and so is each ancestor of it with more labels
pub record HasNoneCloser (name : Labels) (labels : ℕ) (zone : Zone) : Type 0 where
  pub itself : IsAbsent zone name
  pub ancestors : (ancestor : Labels) → at_or_above ancestor name ≡ true → labels < length ancestor → IsAbsent zone ancestor

-- a denial holds in each such zone
abbrev pub IsDeniedIn : Question → Labels → ℕ → List OwnedNsec → Type 0
IsDeniedIn query apex code nsecs =
    is_data_type query.rtype ≡ true → (zone : Zone) → IsShownBy nsecs apex zone → HasNone query code zone

-- an expansion from the wildcard below the name's last labels, this many, is right in each such zone
abbrev pub IsExpandedIn : Question → Labels → ℕ → List OwnedNsec → Type 0
IsExpandedIn query apex labels nsecs =
    is_data_type query.rtype ≡ true → (zone : Zone) → IsShownBy nsecs apex zone → HasNoneCloser query.owner labels zone

-- the name owns no RRset in any zone in which each of the records is true
abbrev pub IsOwnerless : Labels → List OwnedNsec → Type 0
IsOwnerless name nsecs = (zone : Zone) → AllByRecursion (IsTrueNsec zone) nsecs → is_owner zone name ≡ false
