-- The reply for a zone's keys: how a step begins with it, how the DS set of the zone proves it, and how the step ends.
use Rattle.std.proofs.Common.{◌≡◌, ℕ, suc, ◌+◌, ◌-◌, ◌*◌, ◌/◌, ◌%◌, Bool, true, false, ◌==◌, [], ◌∷◌, ◌++◌, map, length, None, Some, refl, ap, ◌∙◌, arith, if◌then◌else◌, nat_lt}
use Rattle.std.specs.Prelude.{◌&&◌, ◌||◌, is_some}
use Rattle.std.proofs.lemmas.Bool.{and_from, or_right}
use Rattle.std.proofs.lemmas.Bool.Decides.{nat_tests}
use Rattle.std.proofs.lemmas.List.{length_push}
use Rattle.sha2.specs.Sha256.{sha256}
use Rattle.dns_model.specs.declared.denial.Denial.TheVariants as denial
use Rattle.dns_model.specs.declared.proof.Proof.TheVariants.{Secure}
use Rattle.dns_model.specs.declared.section.Section.TheVariants.{Answer, Authority, Additional}
use Rattle.dns_model.specs.Names.{folded, wire, name_eq}
use Rattle.dns_model.specs.Types.{class_in, type_ds, type_dnskey}
use Rattle.dns_model.specs.Views.{DsValue, dnskey_in, ds_in}
use Rattle.dns_model.specs.Records.{RrSet, Question}
use Rattle.dns_model.specs.Sections.{leaders, sets_of}
use Rattle.dns_model.specs.Signing.{key_tag_of, ds_digest}
use Rattle.dns_model.specs.Keys.{ds_covers_key}
use Rattle.dns_model.specs.SoundAnswers.{Told, PlacedSet, in_section}
use Rattle.dns_model.proofs.ChainLemmas.{bytes_refl}
use Rattle.dns_model.proofs.SetLemmas.{name_refl, number_refl}
use Rattle.dns_rules.specs.Asking.{Limits, is_judged_at, judged_at, judged_part}
use Rattle.dns_rules.specs.ChainedSets.{ChainedSet, chained_keys, trusted_link, whole_chain}
use Rattle.dns_rules.specs.Delegations.{Signed, ds_question, is_supported_ds, is_ds_for, matching_ds, is_ds_set_of, zone_verdict}
use Rattle.dns_rules.specs.KeySets.{is_anchored_key, is_trusted_key, first_signed, WhollyAnchored, NeedsDs, keys_outcome}
use Rattle.dns_rules.specs.MarkedSets.{MarkedSet}
use Rattle.dns_rules.specs.Outcome.{outcome_of, foreign_record}
use Rattle.dns_rules.specs.Outcome as outcome
use Rattle.dns_trust.specs.Beside.{chained_beside}
use Rattle.dns_flow.specs.Phases.{Answer as Got, Marked, NeedsDs as Needing, Asks, judged_ask, start_set, turn, after}
use Rattle.dns_bench_zones.specs.NestedZones.{zone_name, key_rdata, ds_rdata, key_record, ds_record, public_key, judge_of_zones, question_of}
use Rattle.dns_bench_zones.proofs.PairLemmas.{answered}

-- ---- what is heard

abbrev pub keys_of : ℕ → RrSet
keys_of k = record {
  owner = zone_name k;
  rtype = type_dnskey;
  class = class_in;
  records = key_record k ∷ [];
  signatures = [];
}

abbrev pub placed_keys : ℕ → PlacedSet
placed_keys k = in_section Answer (keys_of k)

abbrev pub keys_heard : ℕ → Told
keys_heard k = answered (key_record k ∷ [])

abbrev pub keys_question : ℕ → Question
keys_question k = question_of (key_record k)

keys_sets : (k : ℕ) → sets_of (keys_heard k).answers ≡ keys_of k ∷ []
unfolding sets_of leaders
keys_sets k = rw (name_refl (zone_name k)) refl

keys_kept : (depth : ℕ) → is_judged_at depth type_dnskey ≡ true
keys_kept depth = by_test (depth == 0)
  where
    by_test : (b : Bool)
        → (b || true || (type_dnskey == type_ds) || (type_dnskey == 47) || (type_dnskey == 50) || (type_dnskey == 6))
        ≡ true
    by_test true = refl
    by_test false = refl

pub keys_judged : (k depth : ℕ) → judged_part depth (keys_heard k) ≡ placed_keys k ∷ []
unfolding sets_of leaders
keys_judged k depth =
    ap (λ sets. judged_at depth
    (map (in_section Answer) sets ++ map (in_section Authority) (sets_of []) ++ map (in_section Additional)
    (sets_of []))) (keys_sets k)
    ∙ ap (λ b. if b then placed_keys k ∷ [] else []) (keys_kept depth)

pub keys_own : (k : ℕ) → foreign_record (keys_question k) (keys_heard k) ≡ None
keys_own k = refl

-- ---- anchors

pub key_read : (k : ℕ)
    → dnskey_in (key_rdata k) ≡ Some (record { flags = 257; protocol = 3; algorithm = 13; key = public_key k })
unfolding dnskey_in
key_read k = refl

root_anchored : (n : ℕ) → is_anchored_key (judge_of_zones n) (keys_of 0) (key_record 0) ≡ true
unfolding dnskey_in
root_anchored n = refl

not_anchored : (n k : ℕ) → is_anchored_key (judge_of_zones n) (keys_of (suc k)) (key_record (suc k)) ≡ false
not_anchored n k = rw (name_refl (zone_name (suc k)), key_read (suc k)) refl

-- ---- the root's keys

abbrev pub judged_keys_of : ℕ → MarkedSet
judged_keys_of k = record { section = Answer; set = keys_of k; mark = Secure; sig = None }

root_outcome : (n : ℕ) → keys_outcome (judge_of_zones n) (keys_of 0) None ≡ WhollyAnchored
unfolding keys_outcome first_signed
root_outcome n = rw (root_anchored n) refl

-- the anchor alone proves them
pub record IsRootStart (n : ℕ) : Type 0 where
  pub c : ChainedSet
  pub starts : start_set (judge_of_zones n) (keys_question 0) (keys_heard 0) (placed_keys 0) ≡ Marked c
  pub judged : c.judged ≡ judged_keys_of 0
  pub links : length c.chain ≡ 2

pub root_starts : (n : ℕ) → IsRootStart n
unfolding start_set chained_keys
root_starts n = record {
  c = chained_keys (judge_of_zones n) (placed_keys 0);
  starts = rw (root_outcome n) refl;
  judged = rw (root_outcome n) refl;
  links = rw (root_outcome n) refl;
}

-- ---- the keys of a lower zone

lower_outcome : (n k : ℕ) → keys_outcome (judge_of_zones n) (keys_of (suc k)) None ≡ NeedsDs
unfolding keys_outcome first_signed
lower_outcome n k = rw (not_anchored n k) refl

-- they need the DS set of the zone
pub keys_start : (n k : ℕ)
    → start_set (judge_of_zones n) (keys_question (suc k)) (keys_heard (suc k)) (placed_keys (suc k)) ≡ Needing
    (placed_keys (suc k))
unfolding start_set
keys_start n k = rw (lower_outcome n k) refl

pub keys_ask : (k : ℕ) → turn (Needing (placed_keys k)) ≡ Asks (judged_ask (ds_question class_in (zone_name k)))
unfolding turn
keys_ask k = refl

-- ---- the DS of a zone matches its key

two_bytes : (n : ℕ) → n / 256 * 256 + n % 256 ≡ n
two_bytes n = omega arith

abbrev ds_value : ℕ → DsValue
ds_value k = record {
  key_tag = key_tag_of (key_rdata k);
  algorithm = 13;
  digest_type = 2;
  digest = sha256 (wire (folded (zone_name k)) ++ key_rdata k);
}

abbrev ds_with : ℕ → ℕ → DsValue
ds_with k tag =
    record {
      key_tag = tag;
      algorithm = 13;
      digest_type = 2;
      digest = sha256
          (wire (folded (zone_name k)) ++ key_rdata k);
    }

ds_read : (k : ℕ) → ds_in (ds_rdata k) ≡ Some (ds_value k)
unfolding ds_in
ds_read k =
    let tag = key_tag_of (key_rdata k) in
    let long : nat_lt (length (ds_rdata k)) 4 ≡ false = grind (arith, nat_tests) in
    ap (λ b. if b then None else Some (ds_with k (tag / 256 * 256 + tag % 256))) long
    ∙ ap (λ t. Some (ds_with k t)) (two_bytes tag)

ds_supported : (n k : ℕ) → is_supported_ds (judge_of_zones n).answers (ds_record k) ≡ true
ds_supported n k = rw (ds_read k) refl

ds_counts : (k : ℕ) → is_ds_for (zone_name k) (key_record k) (ds_record k) ≡ true
ds_counts k = rw (name_refl (zone_name k), key_read k, ds_read k, number_refl (key_tag_of (key_rdata k))) refl

ds_matches : (n k : ℕ) → ds_covers_key (judge_of_zones n).answers (zone_name k) (key_rdata k) (ds_rdata k) ≡ true
unfolding ds_digest
ds_matches n k =
    rw (
      key_read k,
      ds_read k,
      number_refl (key_tag_of (key_rdata k)),
      bytes_refl
          (sha256 (wire (folded (zone_name k)) ++ key_rdata k)),
    ) refl

ds_matching : (n k : ℕ)
    → matching_ds (judge_of_zones n).answers (zone_name k) (key_record k) (ds_record k ∷ []) ≡ Some (ds_record k)
ds_matching n k = rw (ds_counts k, ds_matches n k) refl

key_trusted : (n k : ℕ)
    → is_trusted_key (judge_of_zones n) (keys_of (suc k)) (ds_record (suc k) ∷ []) (key_record (suc k)) ≡ true
key_trusted n k =
    let zone = zone_name (suc k) in
    let match = matching_ds (judge_of_zones n).answers zone (key_record (suc k)) (ds_record (suc k) ∷ []) in
    or_right (is_anchored_key (judge_of_zones n) (keys_of (suc k)) (key_record (suc k)))
    (name_eq zone zone && is_some match)
    (and_from (name_eq zone zone) (is_some match) (name_refl zone) (ap is_some (ds_matching n (suc k))))

-- ---- by the DS set of the zone

-- the DS set that was asked for is Secure, and has this record alone
pub record IsItsDs (k : ℕ) (ds : ChainedSet) : Type 0 where
  pub secure : ds.judged.mark ≡ Secure
  pub of_zone : is_ds_set_of class_in (zone_name k) ds.judged ≡ true
  pub records : ds.judged.set.records ≡ ds_record k ∷ []

zone_signed : (n k : ℕ) (ds : ChainedSet) → IsItsDs k ds
    → zone_verdict (judge_of_zones n).answers class_in (zone_name k) (Some (ds.judged ∷ [])) ≡ Signed (ds_record k ∷ [])
unfolding zone_verdict
zone_signed n k ds is = rw (is.of_zone, is.secure, is.records, ds_supported n k) refl

abbrev pub chained_by_zone : ℕ → ℕ → ChainedSet → ChainedSet
chained_by_zone n k ds = record {
  judged = judged_keys_of k;
  chain =
      whole_chain (keys_of k) ds.chain
      (trusted_link (judge_of_zones n) (keys_of k) (length ds.chain - 1) (ds_record k ∷ []));
}

pub keys_after : (n k : ℕ) (ds : ChainedSet) → IsItsDs (suc k) ds
    → after (judge_of_zones n) (keys_question (suc k)) (keys_heard (suc k)) (Needing (placed_keys (suc k)))
    (Got (Some (ds ∷ [])))
    ≡ Marked (chained_by_zone n (suc k) ds)
unfolding after chained_beside first_signed
keys_after n k ds is =
    rw (zone_signed n (suc k) ds is, ds_supported n (suc k), key_trusted n k, is.of_zone) refl

pub chained_links : (n k : ℕ) (ds : ChainedSet) → length (chained_by_zone n k ds).chain ≡ length ds.chain + 2
chained_links n k ds =
    let link = trusted_link (judge_of_zones n) (keys_of k) (length ds.chain - 1) (ds_record k ∷ []) (key_record k) in
    let two : length (ds.chain ++ link ∷ []) + 1 ≡ length ds.chain + 2 = omega (arith, length_push ds.chain link) in
    length_push (ds.chain ++ link ∷ []) _ ∙ two

-- ---- how the step ends

pub keys_given : (limits : Limits) (k : ℕ)
    → outcome_of limits (keys_question k) (keys_heard k) (judged_keys_of k ∷ []) ≡ outcome.Given denial.None
unfolding outcome_of
keys_given limits k = rw (name_refl (zone_name k)) refl
