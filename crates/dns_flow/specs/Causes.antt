-- Why a set isn't Secure, as its asks come to something, and what is found of it at its end (RFC 4035, 4.3, 5.2, 5.3).
use Rattle.std.specs.Prelude.{ℕ, Bool, true, false, ◌==◌, List, length, Option, None, Some, Ok, Err, is_some, slice_get, if◌then◌else◌}
use Rattle.std.specs.Option.{option_map, option_and_then, option_map_or}
use Rattle.dns_model.specs.Names.{Labels}
use Rattle.dns_model.specs.Types.{type_dnskey}
use Rattle.dns_model.specs.Records.{RrSet, Question}
use Rattle.dns_model.specs.Chains.{Judge}
use Rattle.dns_model.specs.SoundAnswers.{is_secure}
use Rattle.dns_rules.specs.Asking.{ask_of}
use Rattle.dns_rules.specs.CacheEntries.{Found}
use Rattle.dns_rules.specs.ChainedSets.{ChainedSet, bare}
use Rattle.dns_rules.specs.Delegations.{ZoneVerdict, Signed, Insecure, Bogus, ds_question, zone_verdict}
use Rattle.dns_rules.specs.MarkedSets.{MarkedSet, decider}
use Rattle.dns_rules.specs.Probes.{NsProbe}
use Rattle.dns_rules.specs.Probes as probes
use Rattle.dns_rules.specs.ProofErrors.{ProofErrorKindValue, RrsigsNotPresent, Net, RrsigsUnverified, DnskeyNotFound, DsRecordsButNoDnskey, DsRecordShouldExist, DsResponseInsecure, UnknownKeyAlgorithm}
use Rattle.dns_rules.specs.Unsigned.{ns_question, set_start, needs_zone}
use Rattle.dns_cache.specs.Kinds.{because}
use Rattle.dns_cache.specs.Proofs.{ttl_by, proved_whole, excused}
use Rattle.dns_trust.specs.declared.zone_rows.ZoneRow.{ZoneRow}
use Rattle.dns_trust.specs.declared.zone_rows.ZoneRow.TheVariants as row
use Rattle.dns_flow.specs.declared.phases.Seeker.{Seeker}
use Rattle.dns_flow.specs.declared.phases.Seeker.TheVariants.{Set, Ending}
use Rattle.dns_flow.specs.Phases.{GotValue, PhaseValue, Marked, NeedsDs, Trying, AtName, AtZone, Concluded, answer_in, probe_in, first_signatures}

-- ---- causes

-- with which a set begins: of a key set no key was found, of an unsigned one no zone, and of another no signature was
-- asked for
unfoldable pub start_cause : RrSet → ProofErrorKindValue
start_cause set =
    if set.rtype == type_dnskey then DnskeyNotFound set.owner
    else if needs_zone set then DsRecordShouldExist (set_start set)
    else RrsigsNotPresent set.owner set.rtype

-- that of a DS verdict, or the first where the zone is signed
abbrev pub zone_cause : ProofErrorKindValue → ZoneVerdict → ProofErrorKindValue
zone_cause signed (Signed ds) = signed
zone_cause signed (Insecure kind) = kind
zone_cause signed (Bogus kind) = kind

-- by the DS verdict of a key set's owner: where there are DS records, no key proves the set by them
abbrev pub keys_cause : RrSet → ZoneVerdict → ProofErrorKindValue
keys_cause set zone = zone_cause (DsRecordsButNoDnskey set.owner) zone

-- by the verdict on the zone of an unsigned set: where it is signed, the set's signatures are missing
abbrev pub unsigned_cause : RrSet → ZoneVerdict → ProofErrorKindValue
unsigned_cause set zone = zone_cause (RrsigsNotPresent set.owner set.rtype) zone

abbrev pub is_net : ProofErrorKindValue → Bool
is_net (Net query) = true
is_net _ = false

-- by the ask of one signature more: it failed, or doesn't prove the set
abbrev pub tried_cause : RrSet → Option Question → Option (List ChainedSet) → ProofErrorKindValue
tried_cause set asked None = option_map_or Net asked (RrsigsUnverified set.owner set.rtype)
tried_cause set asked (Some sets) = RrsigsUnverified set.owner set.rtype

-- the first ask that failed stays the cause
abbrev pub after_try : ProofErrorKindValue → RrSet → Option Question → Option (List ChainedSet) → ProofErrorKindValue
after_try cause set asked answer = if is_net cause then cause else tried_cause set asked answer

-- by what was seen of a name's NS records
abbrev pub after_seen : ProofErrorKindValue → Question → NsProbe → ProofErrorKindValue
after_seen cause asked probes.Found = cause
after_seen cause asked probes.Absent = cause
after_seen cause asked probes.Failed = Net asked

-- the question of the signature that asks
abbrev pub asked_by_signature : RrSet → ℕ → Option Question
asked_by_signature set place = option_and_then (ask_of set) (slice_get (first_signatures set) place)

-- the cause after what an ask of a phase came to
unfoldable pub cause_after : Judge → PhaseValue → GotValue → ProofErrorKindValue → ProofErrorKindValue
cause_after j (Marked c) got cause = cause
cause_after j (NeedsDs placed) got cause =
    keys_cause placed.set (zone_verdict j.answers placed.set.class placed.set.owner (option_map bare (answer_in got)))
cause_after j (Trying placed vs) got cause =
    after_try cause placed.set (asked_by_signature placed.set (length vs)) (answer_in got)
cause_after j (AtName seeker class name) got cause = after_seen cause (ns_question class name) (probe_in got)
cause_after j (AtZone (Set placed) class zone) got cause =
    unsigned_cause placed.set (zone_verdict j.answers class zone (option_map bare (answer_in got)))
cause_after j (AtZone Ending class zone) got cause = cause
cause_after j (Concluded o) got cause = cause

-- ---- what is found

-- Secure, with the ttl that the signature leaves that decided, if one did; not Secure by a signature; or an error with its
-- mark and its cause
unfoldable pub found_of : ℕ → MarkedSet → ProofErrorKindValue → Found
found_of now judged cause =
    if is_secure judged.mark
    then Ok
    (record proved_whole { adjusted_ttl = option_map (ttl_by now judged.set) (decider judged); rrsig_index = judged.sig })
    else if is_some judged.sig then Ok (record excused { proof = judged.mark; rrsig_index = judged.sig })
    else Err (because judged.mark cause)

-- ---- for private functions of this crate only

abbrev pub is_signed_row : ZoneRow → Bool
is_signed_row row.Signed = true
is_signed_row _ = false

-- the cause by the row of a zone's DS verdict, where the zone isn't signed
abbrev pub unsigned_row_cause : ℕ → Labels → ZoneRow → ProofErrorKindValue
unsigned_row_cause class zone row.Unanswered = Net (ds_question class zone)
unsigned_row_cause class zone row.Signed = DsRecordShouldExist zone
unsigned_row_cause class zone row.Unsupported = UnknownKeyAlgorithm
unsigned_row_cause class zone row.ShownAbsent = DsResponseInsecure zone
unsigned_row_cause class zone row.NotShown = DsRecordShouldExist zone

-- and whichever row it is, by the cause where it is signed
abbrev pub row_cause : ProofErrorKindValue → ℕ → Labels → ZoneRow → ProofErrorKindValue
row_cause signed class zone row = if is_signed_row row then signed else unsigned_row_cause class zone row

-- of a zone that was searched: an ending has no cause of its own
abbrev pub sought_cause : Seeker → ℕ → Labels → ZoneRow → ProofErrorKindValue → ProofErrorKindValue
sought_cause (Set placed) class zone row cause =
    row_cause (RrsigsNotPresent placed.set.owner placed.set.rtype) class zone row
sought_cause Ending class zone row cause = cause
