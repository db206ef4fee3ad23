-- The records of a response that are kept for later denials (RFC 8198, 5.1, 5.2 and 5.4).
use Rattle.std.specs.Prelude.{ℕ, ◌+◌, ◌-◌, ◌^◌, min, Bool, ◌==◌, ◌&&◌, List, Option, None, Some, if◌then◌else◌, option_map}
use Rattle.std.specs.Option.{option_or}
use Rattle.std.specs.List.{filter_map}
use Rattle.dns_model.specs.declared.section.Section.TheVariants.{Authority}
use Rattle.dns_model.specs.Names.{Labels}
use Rattle.dns_model.specs.Types.{class_in}
use Rattle.dns_model.specs.Views.{rrsig_in}
use Rattle.dns_model.specs.Records.{Rr}
use Rattle.dns_model.specs.Owned.{OwnedNsec3}
use Rattle.dns_model.specs.Chains.{LinkValue, Signed}
use Rattle.dns_model.specs.SoundAnswers.{ChainValue, ResponseValue, is_secure, deciding_link}
use Rattle.dns_rules.specs.Denying.{owned_nsec, owned_nsec3}
use Rattle.dns_rules.specs.Nsec3Covering.{hash_algorithm_sha1}
use Rattle.dns_aggressive.specs.declared.kept.KeptRecord.{KeptRecord}
use Rattle.dns_aggressive.specs.declared.kept.KeptRecord.TheVariants.{Nsec, Nsec3}
use Rattle.dns_aggressive.specs.Records.{KeptValue}

-- ---- what a record says

-- names are hashed by SHA-1 and no flag is set: a record with Opt-Out proves no name absent (RFC 8198, 5.3; RFC 5155, 3.1.2)
abbrev pub is_plain_hash : OwnedNsec3 → Bool
is_plain_hash nsec3 = (nsec3.fields.hash_algorithm == hash_algorithm_sha1) && (nsec3.fields.flags == 0)

abbrev pub if_plain : Option OwnedNsec3 → Option KeptRecord
if_plain None = None
if_plain (Some nsec3) = if is_plain_hash nsec3 then Some (Nsec3 nsec3) else None

-- a record as one that may be kept; None of one that can't be read
abbrev pub item_of : Rr → Option KeptRecord
item_of r = option_or (option_map Nsec (owned_nsec r)) (if_plain (owned_nsec3 r))

-- ---- the zone

-- who signed the set at the end of a chain; None where that link is no signed set, or its signature can't be read
abbrev pub signer_in : Option LinkValue → Option Labels
signer_in (Some (Signed owner class rtype rdatas sig key_link key)) = option_map (λ sig. sig.signer) (rrsig_in sig)
signer_in _ = None

-- the zone that signed a record's set: the signer at the end of the first chain of the authority section for this owner and type
abbrev pub zone_in : List ChainValue → Rr → Option Labels
zone_in chains r = signer_in (deciding_link chains Authority r)

-- ---- what is taken

-- the moment from which a record isn't used: its ttl is over, or there is no later moment (RFC 8198, 5.4)
abbrev pub expires_at : ℕ → ℕ → ℕ
expires_at now ttl = min (now + ttl) (2 ^ 64 - 1)

abbrev pub kept_as : ℕ → Rr → Option Labels → Option KeptRecord → Option KeptValue
kept_as now r (Some zone) (Some item) = Some (record { zone = zone; item = item; expires = expires_at now r.ttl })
kept_as now r _ _ = None

abbrev pub taken_as : List ChainValue → ℕ → Rr → Option KeptValue
taken_as chains now r =
    if is_secure r.proof && (r.class == class_in) then kept_as now r (zone_in chains r) (item_of r) else None

-- the records that a response gives, in the order of its authority section: each that is Secure and of class IN, reads as NSEC or as
-- NSEC3 without flags, and whose set has a chain that tells the zone
abbrev pub taken : ResponseValue → ℕ → List KeptValue
taken response now = filter_map (taken_as response.chains now) response.message.authorities
