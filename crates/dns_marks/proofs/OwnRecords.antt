-- The DS verdict of a zone by the records of a message whose classes are not looked at.
use Rattle.std.specs.Prelude.{ℕ, Bool, false, not, ◌==◌, ◌&&◌, ◌||◌, List, if◌then◌else◌}
use Rattle.std.specs.Option.{option_map_or}
use Rattle.std.specs.List.{list_all, list_any, find, filter}
use Rattle.dns_model.specs.declared.section.Section.TheVariants.{Authority}
use Rattle.dns_model.specs.Names.{Labels, name_eq, at_or_above}
use Rattle.dns_model.specs.Types.{type_ds, type_nsec}
use Rattle.dns_model.specs.Records.{Rr, MessageValue}
use Rattle.dns_model.specs.SoundAnswers.{is_secure}
use Rattle.dns_model.specs.Keys.{VerifierAnswers}
use Rattle.dns_handle.specs.Responses.{all_records}
use Rattle.dns_rules.specs.ProofErrors.{DsRecordShouldExist, DsResponseInsecure}
use Rattle.dns_rules.specs.Delegations as zone
use Rattle.dns_marks.specs.ZoneVerdicts.{marked_sets, by_supported}

-- a record of the set of a name and a type
abbrev pub is_own_record : Labels → ℕ → Rr → Bool
is_own_record name rtype r = name_eq name r.owner && (r.rtype == rtype)

abbrev pub are_own_secure : Labels → ℕ → List Rr → Bool
are_own_secure name rtype records = list_all (λ r. not (is_own_record name rtype r) || is_secure r.proof) records

-- there is a DS set of the zone, and the class is that of its first record
abbrev pub has_own_ds : ℕ → Labels → List Rr → Bool
has_own_ds class name answers =
    option_map_or (λ first. class == first.class) (find (is_own_record name type_ds) answers) false

abbrev pub by_own_ds : VerifierAnswers → Labels → List Rr → zone.ZoneVerdict
by_own_ds verifier name answers =
    if are_own_secure name type_ds answers
    then by_supported name (list_any (λ r. is_own_record name type_ds r && zone.is_readable_ds r) answers)
    (filter (λ r. is_own_record name type_ds r && zone.is_supported_ds verifier r) answers)
    else zone.Bogus (DsRecordShouldExist name)

abbrev pub own_shows_no_ds : Labels → List Rr → Bool
own_shows_no_ds name authorities =
    are_own_secure name type_nsec authorities
    && list_any (λ r. is_own_record name type_nsec r && zone.shows_unsigned_cut r) authorities

abbrev pub is_insecure_own : Labels → Rr → Bool
is_insecure_own name r = zone.is_insecure r.proof && at_or_above r.owner name

abbrev pub without_own_ds : Labels → MessageValue → zone.ZoneVerdict
without_own_ds name message =
    if own_shows_no_ds name message.authorities
    || (zone.shows_no_ds_by_hash name (marked_sets Authority message.authorities) || list_any (is_insecure_own name) (all_records message))
    then zone.Insecure (DsResponseInsecure name)
    else zone.Bogus (DsRecordShouldExist name)

abbrev pub by_own_message : VerifierAnswers → ℕ → Labels → MessageValue → zone.ZoneVerdict
by_own_message verifier class name message =
    if has_own_ds class name message.answers then by_own_ds verifier name message.answers else without_own_ds name message
