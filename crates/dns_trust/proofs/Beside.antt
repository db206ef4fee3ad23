-- A key set that no anchor decides is judged by the DS set of its owner as if anchors were tried once more.
use Rattle.std.proofs.Common.{◌≡◌, true, List, Option, Some, refl, sym, ap, ◌∙◌}
use Rattle.std.specs.Prelude.{if◌then◌else◌}
use Rattle.std.specs.Option.{option_map, option_map_or}
use Rattle.std.specs.List.{filter, list_all}
use Rattle.dns_model.specs.declared.proof.Proof.TheVariants as proof
use Rattle.dns_model.specs.Records.{Rr, RrSet}
use Rattle.dns_model.specs.Chains.{Judge}
use Rattle.dns_model.specs.SoundAnswers.{PlacedSet}
use Rattle.dns_rules.specs.ProofErrors.{DsRecordsButNoDnskey}
use Rattle.dns_rules.specs.Delegations.{ZoneVerdict, Signed, Insecure, Bogus, is_supported_ds, zone_verdict}
use Rattle.dns_rules.specs.KeySets.{SignedByMatched, WhollyTrusted, Refused, is_anchored_key, is_matched_key, is_trusted_key, needs_ds, outcome_by_ds, outcome_by_verdict}
use Rattle.dns_rules.specs.ChainedSets.{ChainedSet, bare, ds_chain, keys_chained, chained_by_ds}
use Rattle.dns_rules.proofs.SignerLemmas.{others_sign}
use Rattle.dns_rules.proofs.KeySetLemmas.{needs_ds-unsigned, needs_ds-outcome}
use Rattle.dns_trust.specs.Beside.{outcome_beside_ds, outcome_beside, chained_beside}

pub beside_ds : (j : Judge) (set : RrSet) (ds : List Rr) → needs_ds j set ≡ true → outcome_beside_ds j set ds ≡ outcome_by_ds j set ds
beside_ds j set ds needed =
    ap (λ o. option_map_or (SignedByMatched ds) o
    (if list_all (is_trusted_key j set ds) set.records then WhollyTrusted ds else Refused proof.Bogus (DsRecordsButNoDnskey set.owner)))
    (others_sign (is_matched_key j set ds) (is_anchored_key j set) j set (needs_ds-unsigned j set needed))

beside_verdict : (j : Judge) (set : RrSet) (zone : ZoneVerdict) → needs_ds j set ≡ true
    → outcome_beside j set (Some zone) ≡ outcome_by_verdict j set (Some zone)
beside_verdict j set (Signed ds) needed = beside_ds j set (filter (is_supported_ds j.answers) ds) needed
beside_verdict j set (Insecure kind) needed = refl
beside_verdict j set (Bogus kind) needed = refl

pub beside_known : (j : Judge) (placed : PlacedSet) (answer : Option (List ChainedSet)) → needs_ds j placed.set ≡ true
    → chained_beside j placed answer ≡ chained_by_ds j placed answer
unfolding chained_beside chained_by_ds
beside_known j placed answer needed =
    let zone = zone_verdict j.answers placed.set.class placed.set.owner (option_map bare answer) in
    ap (keys_chained j placed (ds_chain placed.set.class placed.set.owner answer))
    (beside_verdict j placed.set zone needed ∙ sym (needs_ds-outcome j placed.set zone needed))
