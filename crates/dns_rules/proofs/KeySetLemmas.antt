-- A key set that is marked Secure stands, by its anchored keys alone or by the DS set of its owner.
use Rattle.std.proofs.Common.{◌≡◌, ◌-◌, Bool, true, false, ◌==◌, List, [], length, take, Option, None, Some, refl, sym, ap, ◌∙◌, arith}
use Rattle.std.specs.Prelude.{if◌then◌else◌}
use Rattle.std.specs.Option.{option_map, option_map_or}
use Rattle.std.specs.List.{filter, list_all, slice_get}
use Rattle.dns_model.specs.declared.proof.Proof.TheVariants as proof
use Rattle.dns_model.specs.Types.{type_dnskey}
use Rattle.dns_model.specs.Records.{Rr, RrSet}
use Rattle.dns_model.specs.Chains.{LinkValue, Judge, links_hold}
use Rattle.dns_model.specs.SoundAnswers.{PlacedSet}
use Rattle.dns_model.proofs.SetLemmas.{IsProper}
use Rattle.dns_rules.specs.Marks.{most_signatures}
use Rattle.dns_rules.specs.ProofErrors.{DnskeyNotFound, DsRecordsButNoDnskey}
use Rattle.dns_rules.specs.Delegations.{ZoneVerdict, Signed, Insecure, Bogus, is_supported_ds, zone_verdict}
use Rattle.dns_rules.specs.KeySets.{SignedKeys, KeysOutcome, SignedByAnchored, WhollyAnchored, NeedsDs, SignedByMatched, WhollyTrusted, Refused, is_anchored_key, is_matched_key, is_trusted_key, signer_among, signed_by, is_root, is_needing_ds, outcome_by_ds, outcome_by_verdict, keys_outcome, needs_ds}
use Rattle.dns_rules.specs.ChainedSets.{ChainedSet, bare, stands, anchored_link, matched_by, trusted_link, whole_chain, self_signed_chain, keys_chained, chained_keys, ds_chain, chained_by_ds}
use Rattle.dns_rules.proofs.FindLemmas.{each_all}
use Rattle.dns_rules.proofs.FirstLemmas.{first_signed-from}
use Rattle.dns_rules.proofs.StandLemmas.{IsChainFor, stands_from, slice_get-take}
use Rattle.dns_rules.proofs.ChainedLemmas.{IsGoodAnswer}
use Rattle.dns_rules.proofs.KeyLinkLemmas.{IsKeyLink, signed_at, self_signed, wholly_trusted}
use Rattle.dns_rules.proofs.DsLemmas.{anchored_by, ShowsDs, shows_of, matched_by_ds, trusted_by, signed_zone}

-- ---- a set that a key of it signed, or whose keys are all trusted

-- a set that a trusted key of it signed has a chain for the signature at its place
signed_chain_for : (may_sign : Rr → Bool) (j : Judge) (set : RrSet) (front : List LinkValue) (link : Rr → LinkValue) (s : SignedKeys)
    → IsProper set → (set.rtype == type_dnskey) ≡ true → links_hold j [] front ≡ true
    → ((key : Rr) → may_sign key ≡ true → IsKeyLink j set front key (link key)) → signed_by may_sign j set ≡ Some s
    → IsChainFor j set (self_signed_chain set front (link s.key) s) (slice_get set.signatures s.place)
signed_chain_for may_sign j set front link s proper keys held trusted is =
    let tried = take most_signatures set.signatures in
    let found = signed_at (signer_among may_sign j set) 0 tried s (sym (first_signed-from may_sign j set tried) ∙ is) in
    let chain = self_signed may_sign j set tried s front (link s.key) proper keys held found (trusted s.key) in
    let place_is : s.place ≡ found.k = found.place_is ∙ omega arith in
    let at : slice_get set.signatures s.place ≡ Some s.signature =
    ap (slice_get set.signatures) place_is ∙ slice_get-take most_signatures set.signatures found.k s.signature found.at in
    rw at chain

-- a set whose keys are all trusted has a chain
whole_chain_for : (may_sign : Rr → Bool) (j : Judge) (set : RrSet) (front : List LinkValue) (link : Rr → LinkValue)
    → IsProper set → (set.rtype == type_dnskey) ≡ true → links_hold j [] front ≡ true
    → ((key : Rr) → may_sign key ≡ true → IsKeyLink j set front key (link key)) → list_all may_sign set.records ≡ true
    → IsChainFor j set (whole_chain set front link) None
whole_chain_for may_sign j set front link proper keys held trusted all =
    wholly_trusted j set front link proper keys held
    (each_all may_sign (λ key. IsKeyLink j set front key (link key)) trusted set.records all)

-- ---- by the DS records of the owner

ds_step : (j : Judge) (placed : PlacedSet) (front : List LinkValue) (ds : List Rr) (o : Option SignedKeys) (all : Bool)
    → ((s : SignedKeys) → o ≡ Some s → stands j (keys_chained j placed front (SignedByMatched ds s)) ≡ true)
    → (all ≡ true → stands j (keys_chained j placed front (WhollyTrusted ds)) ≡ true)
    → stands j (keys_chained j placed front
    (option_map_or (SignedByMatched ds) o (if all then WhollyTrusted ds
    else Refused proof.Bogus (DsRecordsButNoDnskey placed.set.owner)))) ≡ true
ds_step j placed front ds (Some s) all signed whole = signed s refl
ds_step j placed front ds None true signed whole = whole refl
ds_step j placed front ds None false signed whole = refl

ds_stands : (j : Judge) (placed : PlacedSet) (front : List LinkValue) (ds : List Rr) → IsProper placed.set
    → (placed.set.rtype == type_dnskey) ≡ true
    → ShowsDs j placed.set front ds → stands j (keys_chained j placed front (outcome_by_ds j placed.set ds)) ≡ true
ds_stands j placed front ds proper keys shows =
    let set = placed.set in
    let matched = is_matched_key j set ds in
    let trusted = is_trusted_key j set ds in
    let last = length front - 1 in
    ds_step j placed front ds (signed_by matched j set) (list_all trusted set.records)
    (λ s is. stands_from j (keys_chained j placed front (SignedByMatched ds s))
    (signed_chain_for matched j set front (matched_by j set last ds) s proper keys shows.held
    (λ key h. matched_by_ds j set front ds key shows h) is))
    (λ all. stands_from j (keys_chained j placed front (WhollyTrusted ds))
    (whole_chain_for trusted j set front (trusted_link j set last ds) proper keys shows.held
    (λ key h. trusted_by j set front ds key shows h) all))

-- by the DS verdict, where the links before show its DS records
zone_stands : (j : Judge) (placed : PlacedSet) (front : List LinkValue) (zone : Option ZoneVerdict) → IsProper placed.set
    → (placed.set.rtype == type_dnskey) ≡ true → ((ds : List Rr) → zone ≡ Some (Signed ds) → ShowsDs j placed.set front ds)
    → stands j (keys_chained j placed front (outcome_by_verdict j placed.set zone)) ≡ true
zone_stands j placed front None proper keys shows = refl
zone_stands j placed front (Some (Signed ds)) proper keys shows =
    ds_stands j placed front (filter (is_supported_ds j.answers) ds) proper keys
    (shows_of j placed.set front ds (is_supported_ds j.answers) (shows ds refl))
zone_stands j placed front (Some (Insecure kind)) proper keys shows = refl
zone_stands j placed front (Some (Bogus kind)) proper keys shows = refl

-- ---- by the first row that holds

-- the rows before the DS verdict, by what they ask
abbrev by_rows : RrSet → Option SignedKeys → Bool → Bool → KeysOutcome → KeysOutcome
by_rows set o all root later =
    option_map_or SignedByAnchored o (if all then WhollyAnchored else if root then Refused proof.Bogus (DnskeyNotFound set.owner)
    else later)

rows_step : (j : Judge) (placed : PlacedSet) (front : List LinkValue) (o : Option SignedKeys) (all root : Bool) (later : KeysOutcome)
    → ((s : SignedKeys) → o ≡ Some s → stands j (keys_chained j placed front (SignedByAnchored s)) ≡ true)
    → (all ≡ true → stands j (keys_chained j placed front WhollyAnchored) ≡ true)
    → stands j (keys_chained j placed front later) ≡ true
    → stands j (keys_chained j placed front (by_rows placed.set o all root later)) ≡ true
rows_step j placed front (Some s) all root later signed whole after = signed s refl
rows_step j placed front None true root later signed whole after = whole refl
rows_step j placed front None false true later signed whole after = refl
rows_step j placed front None false false later signed whole after = after

outcome_stands : (j : Judge) (placed : PlacedSet) (front : List LinkValue) (zone : Option ZoneVerdict) → IsProper placed.set
    → (placed.set.rtype == type_dnskey) ≡ true → ((ds : List Rr) → zone ≡ Some (Signed ds) → ShowsDs j placed.set front ds)
    → stands j (keys_chained j placed front (keys_outcome j placed.set zone)) ≡ true
unfolding keys_outcome links_hold
outcome_stands j placed front zone proper keys shows =
    let set = placed.set in
    let anchored = is_anchored_key j set in
    rows_step j placed front (signed_by anchored j set) (list_all anchored set.records) (is_root set.owner) (outcome_by_verdict j set zone)
    (λ s is. stands_from j (keys_chained j placed front (SignedByAnchored s))
    (signed_chain_for anchored j set [] (anchored_link set) s proper keys refl (anchored_by j set []) is))
    (λ all. stands_from j (keys_chained j placed front WhollyAnchored)
    (whole_chain_for anchored j set [] (anchored_link set) proper keys refl (anchored_by j set []) all))
    (zone_stands j placed front zone proper keys shows)

-- a proper key set that asks for no DS set stands
pub chained_keys-stands : (j : Judge) (placed : PlacedSet) → IsProper placed.set → (placed.set.rtype == type_dnskey) ≡ true
    → stands j (chained_keys j placed) ≡ true
unfolding chained_keys
chained_keys-stands j placed proper keys = outcome_stands j placed [] None proper keys (λ ds h. cc)

-- one that asks for it stands by an answer whose sets stand
pub chained_by_ds-stands : (j : Judge) (placed : PlacedSet) (answer : Option (List ChainedSet)) → IsProper placed.set
    → (placed.set.rtype == type_dnskey) ≡ true → IsGoodAnswer j answer → stands j (chained_by_ds j placed answer) ≡ true
unfolding chained_by_ds
chained_by_ds-stands j placed answer proper keys good =
    let set = placed.set in
    let verdict = zone_verdict j.answers set.class set.owner (option_map bare answer) in
    outcome_stands j placed (ds_chain set.class set.owner answer) (Some verdict) proper keys
    (λ ds h. signed_zone j set answer ds good (let same : verdict ≡ Signed ds = cc in same))

-- ---- which sets ask for a DS set

needs_step : (set : RrSet) (o : Option SignedKeys) (all root : Bool) (later : KeysOutcome)
    → is_needing_ds (by_rows set o all root NeedsDs) ≡ true
    → by_rows set o all root later ≡ later
needs_step set (Some s) all root later h = cc
needs_step set None true root later h = cc
needs_step set None false true later h = cc
needs_step set None false false later h = refl

-- a set that asks is judged by the DS verdict of its owner
pub needs_ds-outcome : (j : Judge) (set : RrSet) (zone : ZoneVerdict) → needs_ds j set ≡ true
    → keys_outcome j set (Some zone) ≡ outcome_by_verdict j set (Some zone)
unfolding keys_outcome
needs_ds-outcome j set zone h =
    let anchored = is_anchored_key j set in
    needs_step set (signed_by anchored j set) (list_all anchored set.records) (is_root set.owner) (outcome_by_verdict j set (Some zone)) h

unsigned_step : (set : RrSet) (o : Option SignedKeys) (all root : Bool) → is_needing_ds (by_rows set o all root NeedsDs) ≡ true → o ≡ None
unsigned_step set (Some s) all root h = cc
unsigned_step set None all root h = refl

-- no anchored key of it signed it
pub needs_ds-unsigned : (j : Judge) (set : RrSet) → needs_ds j set ≡ true → signed_by (is_anchored_key j set) j set ≡ None
unfolding keys_outcome
needs_ds-unsigned j set h =
    let anchored = is_anchored_key j set in
    unsigned_step set (signed_by anchored j set) (list_all anchored set.records) (is_root set.owner) h
