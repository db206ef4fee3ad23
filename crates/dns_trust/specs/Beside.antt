-- A DNSKEY set of which anchors were tried, judged by the DS set of its owner: keys that are anchors aren't tried again (RFC 4035, 5.2).
use Rattle.std.specs.Prelude.{Bool, not, ◌&&◌, List, Option, None, Some, if◌then◌else◌}
use Rattle.std.specs.Option.{option_map, option_map_or}
use Rattle.std.specs.List.{filter, list_all}
use Rattle.dns_model.specs.declared.proof.Proof.TheVariants as proof
use Rattle.dns_model.specs.Records.{Rr, RrSet}
use Rattle.dns_model.specs.Chains.{Judge}
use Rattle.dns_model.specs.SoundAnswers.{PlacedSet}
use Rattle.dns_rules.specs.ProofErrors.{DsRecordsButNoDnskey}
use Rattle.dns_rules.specs.Delegations.{ZoneVerdict, Signed, Insecure, Bogus, is_supported_ds, zone_verdict}
use Rattle.dns_rules.specs.KeySets.{KeysOutcome, NeedsDs, SignedByMatched, WhollyTrusted, Refused, is_anchored_key, is_matched_key, is_trusted_key, signed_by}
use Rattle.dns_rules.specs.ChainedSets.{ChainedSet, bare, ds_chain, keys_chained}

-- a key of the set that is no anchor, and that one of these DS records matches
abbrev pub is_matched_only : Judge → RrSet → List Rr → Rr → Bool
is_matched_only j set ds key = not (is_anchored_key j set key) && is_matched_key j set ds key

-- by DS records that are Secure
abbrev pub outcome_beside_ds : Judge → RrSet → List Rr → KeysOutcome
outcome_beside_ds j set ds =
    option_map_or (SignedByMatched ds) (signed_by (is_matched_only j set ds) j set)
    (if list_all (is_trusted_key j set ds) set.records then WhollyTrusted ds else Refused proof.Bogus (DsRecordsButNoDnskey set.owner))

-- by the DS verdict of the owner; of its DS records the supported ones count
abbrev pub outcome_beside : Judge → RrSet → Option ZoneVerdict → KeysOutcome
outcome_beside j set None = NeedsDs
outcome_beside j set (Some (Signed ds)) = outcome_beside_ds j set (filter (is_supported_ds j.answers) ds)
outcome_beside j set (Some (Insecure kind)) = Refused proof.Insecure kind
outcome_beside j set (Some (Bogus kind)) = Refused proof.Bogus kind

-- by the sets of the answer to the ask for the owner's DS set; none where the ask failed or was refused
unfoldable pub chained_beside : Judge → PlacedSet → Option (List ChainedSet) → ChainedSet
chained_beside j placed answer =
    keys_chained j placed (ds_chain placed.set.class placed.set.owner answer)
    (outcome_beside j placed.set (Some (zone_verdict j.answers placed.set.class placed.set.owner (option_map bare answer))))
