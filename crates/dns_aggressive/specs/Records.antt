-- NSEC and NSEC3 records that are kept for later denials (RFC 8198, 5.1 and 5.2).
use Rattle.std.specs.Prelude.{ℕ, Bool, nat_lt, List, Option, None, Some}
use Rattle.dns_model.specs.Names.{Labels}
use Rattle.dns_model.specs.Owned.{OwnedNsec, OwnedNsec3}
use Rattle.dns_rules.specs.Nsec3Verdict.{Parameters, parameters_in}
use Rattle.dns_aggressive.specs.declared.kept.KeptRecord.{KeptRecord}
use Rattle.dns_aggressive.specs.declared.kept.KeptRecord.TheVariants.{Nsec, Nsec3}

-- a record, the zone that signed it, and the moment from which it isn't used, in seconds since 1970 (RFC 8198, 5.4)
pub record KeptValue : Type 0 where
  pub zone : Labels
  pub item : KeptRecord
  pub expires : ℕ

abbrev pub is_live : ℕ → KeptValue → Bool
is_live now kept = nat_lt now kept.expires

abbrev pub nsec_of : KeptRecord → Option OwnedNsec
nsec_of (Nsec nsec) = Some nsec
nsec_of (Nsec3 nsec3) = None

abbrev pub nsec3_of : KeptRecord → Option OwnedNsec3
nsec3_of (Nsec nsec) = None
nsec3_of (Nsec3 nsec3) = Some nsec3

-- how the owner's name is hashed; None of an NSEC record, whose owner is the name itself
abbrev pub way_of : KeptRecord → Option Parameters
way_of (Nsec nsec) = None
way_of (Nsec3 nsec3) = Some (parameters_in nsec3)

-- what a store keeps, first kept first, how many records at the most, and how many groups of NSEC3 records it tries at the most
pub record StoreValue : Type 0 where
  pub limit : ℕ
  pub most : Option ℕ
  pub kept : List KeptValue
