-- The DS sets of zones, and the keys that they match (RFC 4034, 5; RFC 4035, 5.2; RFC 5155, 8.9).
use Rattle.std.specs.Prelude.{ℕ, Bool, true, false, ◌==◌, ◌&&◌, ◌||◌, List, take, Option, None, Some, is_some, if◌then◌else◌}
use Rattle.std.specs.Option.{option_map_or}
use Rattle.std.specs.List.{filter, find, list_any}
use Rattle.dns_model.specs.declared.proof.Proof.{Proof}
use Rattle.dns_model.specs.declared.proof.Proof.TheVariants as proof
use Rattle.dns_model.specs.declared.section.Section.TheVariants.{Answer, Authority}
use Rattle.dns_model.specs.Names.{Labels, name_eq, at_or_above}
use Rattle.dns_model.specs.Types.{type_ds, type_nsec}
use Rattle.dns_model.specs.Views.{DsValue, ds_in, nsec_in}
use Rattle.dns_model.specs.Records.{Rr, Question}
use Rattle.dns_model.specs.RecordViews.{dnskey_of}
use Rattle.dns_model.specs.Signing.{key_tag_of}
use Rattle.dns_model.specs.Keys.{VerifierAnswers, ds_covers_key}
use Rattle.dns_model.specs.SoundAnswers.{section_eq, is_secure}
use Rattle.dns_rules.specs.MarkedSets.{MarkedSet}
use Rattle.dns_rules.specs.ListedTypes.{is_unsigned_cut}
use Rattle.dns_rules.specs.Denying.{hashed_denials}
use Rattle.dns_rules.specs.Nsec3Verdict.{shows_insecure_delegation}
use Rattle.dns_rules.specs.ProofErrors.{ProofErrorKindValue, Net, DsRecordShouldExist, DsResponseInsecure, UnknownKeyAlgorithm}

-- a record as a DS (RFC 4034, 5.1)
abbrev pub ds_of : Rr → Option DsValue
ds_of r = if r.rtype == type_ds then ds_in r.rdata else None

-- the question for a zone's DS set
abbrev pub ds_question : ℕ → Labels → Question
ds_question class zone = record { owner = zone; rtype = type_ds; class = class }

-- ---- which DS records match a key

-- the digest types that are supported: SHA-1, SHA-256 and SHA-384 (RFC 4034, A.2; RFC 4509, 2; RFC 6605, 2)
abbrev pub is_digest_type : ℕ → Bool
is_digest_type digest_type = (digest_type == 1) || ((digest_type == 2) || (digest_type == 4))

-- the record can be read as a DS, of a supported algorithm and digest type
abbrev pub is_supported_ds : VerifierAnswers → Rr → Bool
is_supported_ds verifier r = option_map_or (λ ds. verifier.supports ds.algorithm && is_digest_type ds.digest_type) (ds_of r) false

-- a DS of an owner that has the algorithm and the tag of a key (RFC 4034, 5.2)
abbrev pub is_ds_for : Labels → Rr → Rr → Bool
is_ds_for owner key r =
    name_eq owner r.owner
    && option_map_or (λ text. option_map_or (λ ds. (text.algorithm == ds.algorithm) && (key_tag_of key.rdata == ds.key_tag)) (ds_of r) false)
    (dnskey_of key) false

-- the DS records of a list that count for a key of an owner: the first two with its algorithm and tag
abbrev pub counted_ds : Labels → Rr → List Rr → List Rr
counted_ds owner key records = take 2 (filter (is_ds_for owner key) records)

-- the first DS that counts and whose digest is that of owner and key
abbrev pub matching_ds : VerifierAnswers → Labels → Rr → List Rr → Option Rr
matching_ds verifier owner key records = find (λ r. ds_covers_key verifier owner key.rdata r.rdata) (counted_ds owner key records)

-- ---- what the answer to the ask for a zone's DS set says of the zone

-- the zone is signed, and by these DS records its keys are known; or no more than Insecure can be expected; or neither is shown
pub data ZoneVerdict : Type 0 where
  Signed : (ds : List Rr) → ZoneVerdict
  Insecure : (kind : ProofErrorKindValue) → ZoneVerdict
  Bogus : (kind : ProofErrorKindValue) → ZoneVerdict

-- the DS set of a zone in the answer section of a finished ask
abbrev pub is_ds_set_of : ℕ → Labels → MarkedSet → Bool
is_ds_set_of class zone judged =
    section_eq Answer judged.section && (name_eq zone judged.set.owner && ((judged.set.rtype == type_ds) && (class == judged.set.class)))

abbrev pub is_readable_ds : Rr → Bool
is_readable_ds r = is_some (ds_of r)

-- by the mark and the records of the DS set: one that is Secure has supported records, or only others, by which the zone can't be
-- judged (RFC 4035, 5.2)
abbrev pub verdict_by_ds : VerifierAnswers → Labels → Proof → List Rr → ZoneVerdict
verdict_by_ds verifier zone proof.Secure records =
    if list_any (is_supported_ds verifier) records then Signed (filter (is_supported_ds verifier) records)
    else if list_any is_readable_ds records then Insecure UnknownKeyAlgorithm
    else Bogus (DsRecordShouldExist zone)
verdict_by_ds verifier zone proof.Insecure records = Bogus (DsRecordShouldExist zone)
verdict_by_ds verifier zone proof.Bogus records = Bogus (DsRecordShouldExist zone)
verdict_by_ds verifier zone proof.Indeterminate records = Bogus (DsRecordShouldExist zone)

-- an NSEC of a delegation to a zone that isn't signed
abbrev pub shows_unsigned_cut : Rr → Bool
shows_unsigned_cut r = option_map_or (λ nsec. is_unsigned_cut nsec.types) (nsec_in r.rdata) false

-- a Secure NSEC set of the zone in the authority section shows that its delegation has no DS
abbrev pub shows_no_ds : Labels → MarkedSet → Bool
shows_no_ds zone judged =
    section_eq Authority judged.section && (is_secure judged.mark && (name_eq zone judged.set.owner && ((judged.set.rtype == type_nsec)
    && list_any shows_unsigned_cut judged.set.records)))

-- or Secure NSEC3 records of that section do, or show that an unsigned zone may be there (RFC 5155, 8.9)
abbrev pub shows_no_ds_by_hash : Labels → List MarkedSet → Bool
shows_no_ds_by_hash zone answer = shows_insecure_delegation zone (hashed_denials answer)

abbrev pub is_insecure : Proof → Bool
is_insecure proof.Insecure = true
is_insecure _ = false

-- a set that is Insecure, at the zone or above it
abbrev pub is_insecure_above : Labels → MarkedSet → Bool
is_insecure_above zone judged = is_insecure judged.mark && at_or_above judged.set.owner zone

-- an answer without a DS set: by what it shows of the delegation
abbrev pub verdict_without_ds : Labels → List MarkedSet → ZoneVerdict
verdict_without_ds zone answer =
    if list_any (shows_no_ds zone) answer || (shows_no_ds_by_hash zone answer || list_any (is_insecure_above zone) answer)
    then Insecure (DsResponseInsecure zone)
    else Bogus (DsRecordShouldExist zone)

-- the DS verdict of a zone, with the sets of the answer to the ask for its DS set; none where the ask failed or was refused
unfoldable pub zone_verdict : VerifierAnswers → ℕ → Labels → Option (List MarkedSet) → ZoneVerdict
zone_verdict verifier class zone None = Bogus (Net (ds_question class zone))
zone_verdict verifier class zone (Some answer) =
    option_map_or (λ found. verdict_by_ds verifier zone found.mark found.set.records) (find (is_ds_set_of class zone) answer)
    (verdict_without_ds zone answer)
