-- What an answer denies of zones, by its own records and their marks (RFC 4035, 5.3.4 and 5.4; RFC 4592; RFC 5155, 6 and 8).
use Rattle.std.specs.Prelude.{◌≡◌, ℕ, Bool, true, false, not, ◌==◌, ◌&&◌, ◌||◌, nat_le, List}
use Rattle.std.specs.Option.{option_map_or}
use Rattle.std.specs.List.{filter, filter_map, flat_map, list_any, list_all}
use Rattle.dns_model.specs.declared.proof.Proof.{Proof}
use Rattle.dns_model.specs.declared.proof.Proof.TheVariants.{Secure}
use Rattle.dns_model.specs.declared.denial.Denial.{Denial}
use Rattle.dns_model.specs.declared.denial.Denial.TheVariants.{Absent, Expanded}
use Rattle.dns_model.specs.Names.{Labels, name_eq}
use Rattle.dns_model.specs.Types.{type_cname, type_nsec, type_nsec3}
use Rattle.dns_model.specs.Owned.{OwnedNsec, OwnedNsec3}
use Rattle.dns_model.specs.Records.{Rr, RrSet, Question}
use Rattle.dns_model.specs.RecordViews.{rrsig_of}
use Rattle.dns_model.specs.Sections.{is_signature, sets_of}
use Rattle.dns_model.specs.SoundAnswers.{Told, is_secure, is_secure_set, set_rtype}
use Rattle.dns_rules.specs.NsecVerdict.{holds_query}
use Rattle.dns_rules.specs.DenialInZones.{IsDeniedIn, IsExpandedIn}
use Rattle.dns_hashed_denial.specs.HashedDenial.{IsDeniedByHashes, IsExpandedByHashes}
use Rattle.dns_rules.specs.Denying.{owned_nsec, owned_nsec3}
use Rattle.dns_rules.specs.Outcome.{has_answer, is_wildcard_signature}

-- ---- the Secure NSEC and NSEC3 records of a section

abbrev pub is_secure_as : ℕ → Rr → Bool
is_secure_as rtype r = is_secure r.proof && (r.rtype == rtype)

-- what the NSEC records say; one that can't be read says nothing
abbrev pub secure_nsecs : List Rr → List OwnedNsec
secure_nsecs records = filter_map owned_nsec (filter (is_secure_as type_nsec) records)

-- the same of NSEC3 records, set by set
abbrev pub is_secure_nsec3_set : RrSet → Bool
is_secure_nsec3_set set = is_secure_set set && (set.rtype == type_nsec3)

abbrev pub secure_nsec3s : List Rr → List OwnedNsec3
secure_nsec3s records = flat_map (λ set. filter_map owned_nsec3 set.records) (filter is_secure_nsec3_set (sets_of records))

-- a Secure signature of records of this type
abbrev pub signs_as : ℕ → Rr → Bool
signs_as rtype r = is_secure r.proof && (is_signature r && (set_rtype r == rtype))

-- this name is its signer
abbrev pub has_signer : Labels → Rr → Bool
has_signer zone r = option_map_or (λ sig. name_eq zone sig.signer) (rrsig_of r) false

-- a zone holds the query, and made the Secure records of this type in the authority section, of which there are some: it is the signer
-- of a Secure signature over them, and of each
pub record IsDenyingZone (rtype : ℕ) (q : Question) (records : List Rr) (apex : Labels) : Type 0 where
  pub holds : holds_query apex q ≡ true
  pub some : list_any (is_secure_as rtype) records ≡ true
  pub signed : list_any (λ r. signs_as rtype r && has_signer apex r) records ≡ true
  pub made : list_all (λ r. not (signs_as rtype r) || has_signer apex r) records ≡ true

-- ---- what is denied

-- no record answers the query in any zone with that apex in which those NSEC records are true; or in any in which those NSEC3 records
-- are, but for what opt-out leaves open
pub data IsDeniedByRecords (q : Question) (told : Told) (apex : Labels) : Type 0 where
  AbsentByNsec : IsDenyingZone type_nsec q told.authorities apex → IsDeniedIn q apex told.code (secure_nsecs told.authorities)
      → IsDeniedByRecords q told apex
  AbsentByNsec3 : IsDenyingZone type_nsec3 q told.authorities apex → IsDeniedByHashes q apex told.code (secure_nsec3s told.authorities)
      → IsDeniedByRecords q told apex

-- no record answers the query, and none does in such zones
pub record DeniesAnswer (q : Question) (told : Told) : Type 0 where
  pub unanswered : has_answer q told ≡ false
  pub apex : Labels
  pub denied : IsDeniedByRecords q told apex

-- a Secure signature by which the answer was made from a wildcard: at the name that is asked, of the type or of CNAME
abbrev pub is_expansion : Question → Rr → Bool
is_expansion q r =
    is_secure r.proof && (is_signature r && (name_eq q.owner r.owner
    && (((set_rtype r == q.rtype) || (set_rtype r == type_cname)) && is_wildcard_signature r)))

-- it has at least so many labels
abbrev pub has_labels_from : ℕ → Rr → Bool
has_labels_from labels r = option_map_or (λ sig. nat_le labels sig.labels) (rrsig_of r) false

-- it has exactly so many
abbrev pub has_labels : ℕ → Rr → Bool
has_labels labels r = option_map_or (λ sig. labels == sig.labels) (rrsig_of r) false

-- in each such zone neither the name nor a wildcard with more labels exists; light names aside, where NSEC3 records say so by opt-out
pub data IsExpandedByRecords (q : Question) (labels : ℕ) (told : Told) (apex : Labels) : Type 0 where
  ExpandedByNsec : IsDenyingZone type_nsec q told.authorities apex → IsExpandedIn q apex labels (secure_nsecs told.authorities)
      → IsExpandedByRecords q labels told apex
  ExpandedByNsec3 : IsDenyingZone type_nsec3 q told.authorities apex → IsExpandedByHashes q labels (secure_nsec3s told.authorities)
      → IsExpandedByRecords q labels told apex

-- some such signature has so many labels and none has fewer, and no closer wildcard exists in such zones
pub record DeniesCloser (q : Question) (told : Told) : Type 0 where
  pub labels : ℕ
  pub some : list_any (λ r. is_expansion q r && has_labels labels r) told.answers ≡ true
  pub fewest : list_all (λ r. not (is_expansion q r) || has_labels_from labels r) told.answers ≡ true
  pub apex : Labels
  pub denied : IsExpandedByRecords q labels told apex

-- what the denial of an Ok answer says by its records: of whatever mark it is, where it says that there is no answer, no record answers;
-- and a Secure answer from a wildcard stands only beside a Secure expansion
pub record DeniesByRecords (q : Question) (told : Told) (denial : Denial) : Type 0 where
  pub unanswered : (mark : Proof) → denial ≡ Absent mark → has_answer q told ≡ false
  pub absent : denial ≡ Absent Secure → DeniesAnswer q told
  pub expanded : denial ≡ Expanded Secure → DeniesCloser q told
  pub denied : list_any (is_expansion q) told.answers ≡ true → denial ≡ Expanded Secure
