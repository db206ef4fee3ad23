-- The ground of a mark Insecure: what shows that no more can be expected of a name (RFC 4035, 4.3 and 5.2; RFC 5155, 8.9;
-- RFC 6840, 4.4).
use Rattle.std.specs.Prelude.{ℕ, ◌≡◌, Bool, true, false, not, ◌==◌, ◌&&◌, ◌||◌, List, take}
use Rattle.std.specs.Option.{option_map_or}
use Rattle.std.specs.List.{list_any, list_all, enumerate_from}
use Rattle.dns_model.specs.Names.{Labels, at_or_above}
use Rattle.dns_model.specs.Types.{type_ds}
use Rattle.dns_model.specs.Records.{Rr}
use Rattle.dns_model.specs.Keys.{VerifierAnswers}
use Rattle.dns_model.specs.SoundAnswers.{is_secure}
use Rattle.dns_model.specs.Trails.{AskedValue, JudgedSetValue}
use Rattle.dns_rules.specs.MarkedSets.{MarkedSet}
use Rattle.dns_rules.specs.Delegations.{is_readable_ds, is_supported_ds, is_ds_set_of, shows_no_ds, shows_no_ds_by_hash, is_insecure}
use Rattle.dns_rules.specs.KeySets.{is_root}
use Rattle.dns_rules.specs.Derivation.{if_answered, judged_sets}

-- ---- what an answer shows of a zone

-- DS records can be read, but none is of a supported algorithm and digest type
abbrev pub none_supported : VerifierAnswers → List Rr → Bool
none_supported verifier records = list_any is_readable_ds records && not (list_any (is_supported_ds verifier) records)

-- a Secure DS set of the zone, in the answer section, by which its keys can't be judged
abbrev pub shows_unsupported_ds : VerifierAnswers → ℕ → Labels → MarkedSet → Bool
shows_unsupported_ds verifier class zone judged =
    is_ds_set_of class zone judged && (is_secure judged.mark && none_supported verifier judged.set.records)

-- the answer to the question for a zone's DS set shows that the zone can't be judged: by such a DS set, or, where the answer section
-- has no DS set of the zone, by a Secure NSEC of the zone with NS and without DS and SOA, or by Secure NSEC3 records that say the
-- same, or that opt-out may hide such a delegation (RFC 5155, 8.9)
abbrev pub shows_unsigned : VerifierAnswers → ℕ → Labels → List MarkedSet → Bool
shows_unsigned verifier class zone answer =
    list_any (shows_unsupported_ds verifier class zone) answer
    || (not (list_any (is_ds_set_of class zone) answer) && (list_any (shows_no_ds zone) answer || shows_no_ds_by_hash zone answer))

-- ---- what a trail shows of a name

-- a judged step that asked for the DS set of a zone at or above the name, other than the root, and whose answer shows it
abbrev pub is_ground : VerifierAnswers → Labels → AskedValue → Bool
is_ground verifier name step =
    step.judged && ((step.query.rtype == type_ds) && (not (is_root step.query.owner) && (at_or_above step.query.owner name
    && option_map_or (shows_unsigned verifier step.query.class step.query.owner) (if_answered step.ending (judged_sets step)) false)))

-- of the steps of a trail before the one with this number, one is so
abbrev pub has_ground : VerifierAnswers → List AskedValue → ℕ → Labels → Bool
has_ground verifier trail number name = list_any (is_ground verifier name) (take number trail)

-- the set isn't Insecure, or its owner has a ground before the step with this number
abbrev pub is_grounded : VerifierAnswers → List AskedValue → ℕ → JudgedSetValue → Bool
is_grounded verifier trail number set = not (is_insecure set.mark) || has_ground verifier trail number set.owner

-- each set that a step of the trail marks Insecure has a ground in the steps before
abbrev pub insecure_has_ground : VerifierAnswers → List AskedValue → Bool
insecure_has_ground verifier trail = list_all (λ step. list_all (is_grounded verifier trail step.0) step.1.sets) (enumerate_from 0 trail)

abbrev pub HasGrounds : VerifierAnswers → List AskedValue → Type 0
HasGrounds verifier trail = insecure_has_ground verifier trail ≡ true
