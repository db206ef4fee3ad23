-- DS verdicts of zones, from the answers to the asks for their DS sets (RFC 4035, 5.2; RFC 5155, 8.9).
use Rattle.std.specs.Prelude.{ℕ, Bool, not, ◌==◌, ◌&&◌, ◌||◌, List, [], ◌∷◌, ◌++◌, map, Option, None, Some, Result, Ok, Err, if◌then◌else◌}
use Rattle.std.specs.List.{list_all, list_any, filter}
use Rattle.dns_model.specs.declared.proof.Proof.TheVariants as proof
use Rattle.dns_model.specs.declared.section.Section.{Section}
use Rattle.dns_model.specs.declared.section.Section.TheVariants.{Answer, Authority, Additional}
use Rattle.dns_model.specs.Names.{Labels, name_eq, at_or_above}
use Rattle.dns_model.specs.Types.{type_ds, type_nsec}
use Rattle.dns_model.specs.Records.{Rr, RrSet, MessageValue}
use Rattle.dns_model.specs.Sections.{sets_of}
use Rattle.dns_model.specs.SoundAnswers.{ResponseValue, is_secure}
use Rattle.dns_model.specs.Keys.{VerifierAnswers}
use Rattle.dns_handle.specs.ErrorKinds.{is_no_memory}
use Rattle.dns_handle.specs.Replies.{error_of}
use Rattle.dns_handle.specs.Responses.{all_records}
use Rattle.dns_handle.specs.declared.error.NetError.{NetError}
use Rattle.dns_rules.specs.MarkedSets.{MarkedSet}
use Rattle.dns_rules.specs.ProofErrors.{DsRecordShouldExist, DsResponseInsecure, UnknownKeyAlgorithm}
use Rattle.dns_rules.specs.Delegations as zone
use Rattle.dns_marks.specs.declared.zone_verdict.ZoneVerdict.{ZoneVerdict}
use Rattle.dns_marks.specs.declared.zone_verdict.ZoneVerdict.TheVariants.{Signed, Insecure, Bogus}
use Rattle.dns_cache.specs.Kinds.{kind_value}

abbrev pub zone_verdict_value : ZoneVerdict → zone.ZoneVerdict
zone_verdict_value (Signed ds) = zone.Signed ds.items
zone_verdict_value (Insecure kind) = zone.Insecure (kind_value kind)
zone_verdict_value (Bogus kind) = zone.Bogus (kind_value kind)

-- ---- what a response shows. Of DS, NSEC and NSEC3 records the rows of the verdict speak as sets: one is Secure
-- where all its records are. Of what is Insecure they speak as a record: one is enough, whatever the others of its set
-- are, since none is Insecure unless no more can be expected of a zone at or above it (RFC 4035, 4.3)

abbrev pub are_secure : List Rr → Bool
are_secure records = list_all (λ r. is_secure r.proof) records

-- a set of a section, Secure or not: whether a record of it is Insecure is told below
abbrev pub marked_set : Section → RrSet → MarkedSet
marked_set section set = record {
  section = section;
  set = set;
  mark = if are_secure set.records then proof.Secure else proof.Bogus;
  sig = None;
}

-- the sets of a section
abbrev pub marked_sets : Section → List Rr → List MarkedSet
marked_sets section records = map (marked_set section) (sets_of records)

-- a record by itself, with its mark. Its section is none in which a set is looked for
abbrev pub lone_record : Rr → MarkedSet
lone_record r = record {
  section = Additional;
  set = record { owner = r.owner; rtype = r.rtype; class = r.class; records = r ∷ []; signatures = [] };
  mark = r.proof;
  sig = None;
}

-- the sets of the answer and the authority section, and each record of whatever section, be it a signature, by itself
abbrev pub shown_by : MessageValue → List MarkedSet
shown_by message =
    marked_sets Answer message.answers
    ++ (marked_sets Authority message.authorities ++ map lone_record (all_records message))

-- the records of a class: a record of another is no DS, no NSEC and no Insecure record of a zone of this one (RFC 1035, 3.2.4)
abbrev pub of_class : ℕ → List Rr → List Rr
of_class class records = filter (λ r. class == r.class) records

-- a message with the records of a class alone
abbrev pub in_class : ℕ → MessageValue → MessageValue
in_class class message = record message {
  answers = of_class class message.answers;
  authorities = of_class class message.authorities;
  additionals = of_class class message.additionals;
}

-- the DS verdict of a zone by the answer to the ask for its DS set; none where memory ran out in that ask
abbrev pub answer_verdict : VerifierAnswers → ℕ → Labels → Result ResponseValue NetError → Option zone.ZoneVerdict
answer_verdict verifier class name (Ok response) =
    Some (zone.zone_verdict verifier class name (Some (shown_by (in_class class response.message))))
answer_verdict verifier class name (Err error) =
    if is_no_memory (error_of error) then None else Some (zone.zone_verdict verifier class name None)

-- ---- for private functions of this crate only

-- a record of the set of a class, a name and a type
abbrev pub is_record_of : ℕ → Labels → ℕ → Rr → Bool
is_record_of class name rtype r = (class == r.class) && (name_eq name r.owner && (r.rtype == rtype))

-- all records of that set are Secure
abbrev pub are_secure_in_set : ℕ → Labels → ℕ → List Rr → Bool
are_secure_in_set class name rtype records = list_all (λ r. not (is_record_of class name rtype r) || is_secure r.proof) records

-- there is a DS of the zone
abbrev pub has_ds_set : ℕ → Labels → List Rr → Bool
has_ds_set class name answers = list_any (is_record_of class name type_ds) answers

-- of a DS set that is Secure: by its supported records, and by whether one can be read
abbrev pub by_supported : Labels → Bool → List Rr → zone.ZoneVerdict
by_supported name readable [] =
    if readable then zone.Insecure UnknownKeyAlgorithm else zone.Bogus (DsRecordShouldExist name)
by_supported name readable (ds ∷ more) = zone.Signed (ds ∷ more)

-- by the records of the zone's DS set
abbrev pub by_ds : VerifierAnswers → ℕ → Labels → List Rr → zone.ZoneVerdict
by_ds verifier class name answers =
    if are_secure_in_set class name type_ds answers
    then by_supported name (list_any (λ r. is_record_of class name type_ds r && zone.is_readable_ds r) answers)
    (filter (λ r. is_record_of class name type_ds r && zone.is_supported_ds verifier r) answers)
    else zone.Bogus (DsRecordShouldExist name)

-- a Secure NSEC set of the zone in the authority section shows that its delegation has no DS
abbrev pub authority_shows_no_ds : ℕ → Labels → List Rr → Bool
authority_shows_no_ds class name authorities =
    are_secure_in_set class name type_nsec authorities
    && list_any (λ r. is_record_of class name type_nsec r && zone.shows_unsigned_cut r) authorities

-- its Secure NSEC3 sets show the same, or that an unsigned zone may be there (RFC 5155, 8.9)
abbrev pub hashes_show_no_ds : ℕ → Labels → List Rr → Bool
hashes_show_no_ds class name authorities = zone.shows_no_ds_by_hash name (marked_sets Authority (of_class class authorities))

-- a record that is Insecure, at the zone or above it
abbrev pub is_insecure_record_above : ℕ → Labels → Rr → Bool
is_insecure_record_above class name r = (class == r.class) && (zone.is_insecure r.proof && at_or_above r.owner name)

-- where there is no DS set
abbrev pub without_ds : ℕ → Labels → MessageValue → zone.ZoneVerdict
without_ds class name message =
    if authority_shows_no_ds class name message.authorities
    || (hashes_show_no_ds class name message.authorities || list_any (is_insecure_record_above class name) (all_records message))
    then zone.Insecure (DsResponseInsecure name)
    else zone.Bogus (DsRecordShouldExist name)

-- by the records of a message
abbrev pub by_message : VerifierAnswers → ℕ → Labels → MessageValue → zone.ZoneVerdict
by_message verifier class name message =
    if has_ds_set class name message.answers then by_ds verifier class name message.answers else without_ds class name message
