-- Valid sessions on worked rows, shown by computing them: the keys of `example.`, whose DS set the root's anchored key signs; and what
-- they are where one thing in them is turned.
use Rattle.std.proofs.Common.{◌≡◌, ℕ, true, false, List, [], ◌∷◌, ◌++◌, map, Option, None, Some, refl, if◌then◌else◌}
use Rattle.dns_model.specs.Records.{Rr, Question, question_eq}
use Rattle.dns_model.specs.SoundAnswers.{Told}
use Rattle.dns_model.proofs.Worked.{key}
use Rattle.dns_model.proofs.Delegation.{ds_of_key, signature_of}
use Rattle.dns_rules.specs.Marks.{key_question}
use Rattle.dns_rules.specs.Delegations.{ds_question}
use Rattle.dns_rules.proofs.WorkedTrailValues.{record_of}
use Rattle.dns_rules.proofs.WorkedDelegations.{zone, ds_records, zone_keys, self_signed, by_root, by_both, other_digest, digest_of_key}
use Rattle.dns_laws.specs.Valid.{leads_to_anchor}
use Rattle.dns_laws.proofs.WorkedStraight.{answers_of, leads_computed}

-- ---- replies

-- these records for the keys of the zone, and these for its DS set; the root's key for the root's keys
abbrev tells : List Rr → List Rr → Question → Option Told
tells keys ds q =
    if question_eq (key_question 1 zone) q then Some (answers_of keys)
    else if question_eq (ds_question 1 zone) q then Some (answers_of ds)
    else if question_eq (key_question 1 []) q then Some (answers_of (record_of [] 48 key ∷ []))
    else None

-- the queries that lead from the keys of the zone to the root's
abbrev to_the_root : List Question
to_the_root = ds_question 1 zone ∷ key_question 1 [] ∷ []

-- a DS set of these records, signed by the root
abbrev ds_set : List (List ℕ) → List Rr
ds_set rdatas = map (record_of zone 43) rdatas ++ record_of zone 46 (signature_of 43 1 []) ∷ []

-- other records of the key's algorithm and tag, of digests that aren't the key's
abbrev third_digest : List ℕ
third_digest = 174 ∷ 201 ∷ 13 ∷ 2 ∷ 2 ∷ []

-- and of a digest type that isn't supported
abbrev unsupported : ℕ → List ℕ
unsupported n = 174 ∷ 201 ∷ 13 ∷ 3 ∷ n ∷ []

-- ---- sessions

pub by_the_ds_set : leads_to_anchor by_root (tells self_signed ds_records) (key_question 1 zone) to_the_root ≡ true
unfolding leads_computed
by_the_ds_set = rw digest_of_key refl

-- the list ends at the first anchor
pub ends_at_an_anchor : leads_to_anchor by_both (tells self_signed ds_records) (key_question 1 zone) [] ≡ true
unfolding leads_computed
ends_at_an_anchor = refl

pub goes_on_past_an_anchor : leads_to_anchor by_both (tells self_signed ds_records) (key_question 1 zone) to_the_root ≡ false
unfolding leads_computed
goes_on_past_an_anchor = refl

-- anchors alone need no signature
pub anchors_unsigned : leads_to_anchor by_both (tells zone_keys ds_records) (key_question 1 zone) [] ≡ true
unfolding leads_computed
anchors_unsigned = refl

-- keys that a DS set matches do
pub matched_unsigned : leads_to_anchor by_root (tells zone_keys ds_records) (key_question 1 zone) to_the_root ≡ false
unfolding leads_computed
matched_unsigned = refl

pub no_ds_set : leads_to_anchor by_root (tells self_signed []) (key_question 1 zone) to_the_root ≡ false
unfolding leads_computed
no_ds_set = refl

-- the DS set is asked for by itself
pub from_the_ds_set : leads_to_anchor by_root (tells self_signed ds_records) (ds_question 1 zone) (key_question 1 [] ∷ []) ≡ true
unfolding leads_computed
from_the_ds_set = refl

-- ---- which DS counts

-- the second supported one of the key's algorithm and tag
pub by_the_second : leads_to_anchor by_root (tells self_signed (ds_set (other_digest ∷ ds_of_key ∷ []))) (key_question 1 zone)
    to_the_root ≡ true
unfolding leads_computed
by_the_second = rw digest_of_key refl

-- no third
pub not_by_the_third :
    leads_to_anchor by_root (tells self_signed (ds_set (other_digest ∷ third_digest ∷ ds_of_key ∷ []))) (key_question 1 zone)
    to_the_root ≡ false
unfolding leads_computed
not_by_the_third = rw digest_of_key refl

-- but those that aren't supported aren't counted
pub behind_unsupported :
    leads_to_anchor by_root (tells self_signed (ds_set (unsupported 1 ∷ unsupported 2 ∷ other_digest ∷ ds_of_key ∷ [])))
    (key_question 1 zone) to_the_root ≡ true
unfolding leads_computed
behind_unsupported = rw digest_of_key refl
