-- The marks of DNSKEY sets (RFC 4035, 5.2).
use Rattle.std.specs.Prelude.{ℕ, Bool, true, false, ◌==◌, ◌&&◌, ◌||◌, List, take, Option, None, Some, is_some, slice_get, if◌then◌else◌}
use Rattle.std.specs.Option.{option_map, option_map_or}
use Rattle.std.specs.List.{filter, filter_map, find, list_all, enumerate_from}
use Rattle.dns_model.specs.declared.proof.Proof.{Proof}
use Rattle.dns_model.specs.declared.proof.Proof.TheVariants as proof
use Rattle.dns_model.specs.Names.{name_eq}
pub use Rattle.dns_model.specs.Names.{is_root}
use Rattle.dns_model.specs.Types.{type_dnskey}
use Rattle.dns_model.specs.Records.{Rr, RrSet}
use Rattle.dns_model.specs.Chains.{Judge}
use Rattle.dns_model.specs.SoundAnswers.{PlacedSet}
use Rattle.dns_rules.specs.Validity.{is_good_by}
use Rattle.dns_rules.specs.MarkedSets.{MarkedSet}
use Rattle.dns_rules.specs.Marks.{Mark, most_signatures}
use Rattle.dns_rules.specs.ProofErrors.{ProofErrorKindValue, DnskeyNotFound, DsRecordsButNoDnskey}
use Rattle.dns_rules.specs.Delegations.{ZoneVerdict, Signed, Insecure, Bogus, is_supported_ds, matching_ds}

-- ---- which keys of a set may sign it

-- a key of the set that is an anchor of its owner; a record of another type or owner never is
abbrev pub is_anchored_key : Judge → RrSet → Rr → Bool
is_anchored_key j set key = (key.rtype == type_dnskey) && (name_eq set.owner key.owner && j.is_anchored set.owner key.rdata)

-- a key of the set that one of these DS records matches
abbrev pub is_matched_key : Judge → RrSet → List Rr → Rr → Bool
is_matched_key j set ds key = name_eq set.owner key.owner && is_some (matching_ds j.answers set.owner key ds)

-- a key that is the one or the other
abbrev pub is_trusted_key : Judge → RrSet → List Rr → Rr → Bool
is_trusted_key j set ds key = is_anchored_key j set key || is_matched_key j set ds key

-- a signature of a key set that is good by a key of it: its place, itself and the key
pub record SignedKeys : Type 0 where
  pub place : ℕ
  pub signature : Rr
  pub key : Rr

-- the first key of a set that may sign it and by which a signature of that set is good
abbrev pub signer_among : (Rr → Bool) → Judge → RrSet → Rr → Option Rr
signer_among may_sign j set r = find (λ key. may_sign key && is_good_by j set r key) set.records

-- the first of some signatures that is good by a key that may sign
unfoldable pub first_signed : (Rr → Bool) → Judge → RrSet → List Rr → Option SignedKeys
first_signed may_sign j set signatures =
    slice_get
    (filter_map (λ p. option_map (λ key. record { place = p.0; signature = p.1; key = key }) (signer_among may_sign j set p.1))
    (enumerate_from 0 signatures))
    0

-- the same of the signatures of a set that are tried
abbrev pub signed_by : (Rr → Bool) → Judge → RrSet → Option SignedKeys
signed_by may_sign j set = first_signed may_sign j set (take most_signatures set.signatures)

-- ---- the rows

-- how a key set is judged
pub data KeysOutcome : Type 0 where
  -- an anchored key of it signed it
  SignedByAnchored : SignedKeys → KeysOutcome
  -- each key of it is anchored
  WhollyAnchored : KeysOutcome
  -- the DS verdict of its owner decides, and is still unknown
  NeedsDs : KeysOutcome
  -- a key of it that these DS records match signed it
  SignedByMatched : (ds : List Rr) → SignedKeys → KeysOutcome
  -- each key of it is anchored, or matched by one of these DS records
  WhollyTrusted : (ds : List Rr) → KeysOutcome
  -- it isn't Secure
  Refused : Proof → ProofErrorKindValue → KeysOutcome

-- by DS records that are Secure
abbrev pub outcome_by_ds : Judge → RrSet → List Rr → KeysOutcome
outcome_by_ds j set ds =
    option_map_or (SignedByMatched ds) (signed_by (is_matched_key j set ds) j set)
    (if list_all (is_trusted_key j set ds) set.records then WhollyTrusted ds else Refused proof.Bogus (DsRecordsButNoDnskey set.owner))

-- by the DS verdict of the owner; of its DS records the supported ones count
abbrev pub outcome_by_verdict : Judge → RrSet → Option ZoneVerdict → KeysOutcome
outcome_by_verdict j set None = NeedsDs
outcome_by_verdict j set (Some (Signed ds)) = outcome_by_ds j set (filter (is_supported_ds j.answers) ds)
outcome_by_verdict j set (Some (Insecure kind)) = Refused proof.Insecure kind
outcome_by_verdict j set (Some (Bogus kind)) = Refused proof.Bogus kind

-- the first row that holds, with the DS verdict of the owner if it is known: an anchored key signed, all keys are anchored,
-- the root's keys have no DS, and else the DS verdict
unfoldable pub keys_outcome : Judge → RrSet → Option ZoneVerdict → KeysOutcome
keys_outcome j set zone =
    option_map_or SignedByAnchored (signed_by (is_anchored_key j set) j set)
    (if list_all (is_anchored_key j set) set.records then WhollyAnchored
    else if is_root set.owner then Refused proof.Bogus (DnskeyNotFound set.owner)
    else outcome_by_verdict j set zone)

abbrev pub is_needing_ds : KeysOutcome → Bool
is_needing_ds NeedsDs = true
is_needing_ds _ = false

-- whether the DS set of a key set's owner is asked for
abbrev pub needs_ds : Judge → RrSet → Bool
needs_ds j set = is_needing_ds (keys_outcome j set None)

-- ---- the mark

abbrev pub outcome_mark : KeysOutcome → Mark
outcome_mark (SignedByAnchored signed) = record { mark = proof.Secure; sig = Some signed.place }
outcome_mark WhollyAnchored = record { mark = proof.Secure; sig = None }
outcome_mark NeedsDs = record { mark = proof.Bogus; sig = None }
outcome_mark (SignedByMatched ds signed) = record { mark = proof.Secure; sig = Some signed.place }
outcome_mark (WhollyTrusted ds) = record { mark = proof.Secure; sig = None }
outcome_mark (Refused mark kind) = record { mark = mark; sig = None }

abbrev pub keys_judged : PlacedSet → KeysOutcome → MarkedSet
keys_judged placed outcome = record {
  section = placed.section;
  set = placed.set;
  mark = (outcome_mark outcome).mark;
  sig = (outcome_mark outcome).sig;
}

-- a DNSKEY set, judged with the DS verdict of its owner if it is known
unfoldable pub judged_keys : Judge → PlacedSet → Option ZoneVerdict → MarkedSet
judged_keys j placed zone = keys_judged placed (keys_outcome j placed.set zone)
