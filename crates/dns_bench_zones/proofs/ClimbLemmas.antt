-- A lookup of the host climbs through the zones: each zone's keys are proved by its DS set, and that by the keys of the
-- zone above.
use Rattle.std.proofs.Common.{◌≡◌, ℕ, zero, suc, ◌+◌, ◌*◌, ◌≤◌, ◌<◌, Bool, true, false, ◌==◌, List, [], ◌∷◌, length, Some, refl, sym, ◌∙◌, subst, arith}
use Rattle.std.specs.Prelude.{◌||◌}
use Rattle.dns_model.specs.declared.section.Section.TheVariants.{Answer}
use Rattle.dns_model.specs.Names.{Labels, name_eq, at_or_above, num_labels}
use Rattle.dns_model.specs.Types.{class_in, type_a, type_ds, type_rrsig, type_dnskey}
use Rattle.dns_model.specs.Views.{RrsigValue, rrsig_in}
use Rattle.dns_model.specs.Records.{Rr, RrSet, Question, MessageValue}
use Rattle.dns_model.specs.Chains.{Judge}
use Rattle.dns_model.proofs.AboveLemmas.{above_itself, above_one_more, strictly_made}
use Rattle.dns_model.proofs.SetLemmas.{name_refl, number_refl}
use Rattle.dns_laws.specs.Complete.{shows_secure}
use Rattle.dns_laws.specs.Straight.{is_straight}
use Rattle.dns_laws.proofs.RankLemmas.{name_lengths}
use Rattle.dns_laws.proofs.StraightLemmas.{straight_parts}
use Rattle.dns_laws.proofs.SecureRecordLemmas.{secure_records}
use Rattle.dns_rules.specs.Asking.{is_judged_at}
use Rattle.dns_rules.specs.ChainedSets.{ChainedSet}
use Rattle.dns_rules.specs.Marking.{marked_section}
use Rattle.dns_handle.specs.Errors.{Reply}
use Rattle.dns_handle.specs.Handles.{reply_to}
use Rattle.dns_flow.specs.Phases.{Marked, Trying, NeedsDs}
use Rattle.dns_validation.specs.Machine.{Terms}
use Rattle.dns_validation.specs.Requests.{asking_request}
use Rattle.dns_lookup.specs.Limiting.{default_iterations, default_ranges}
use Rattle.dns_bench_zones.specs.NestedZones.{zone_name, host_name, key_record, ds_record, host_record, host_question, record_of, message_with, signature_by, signature_record, upstream, judge_of_zones, deep_options, moment}
use Rattle.dns_bench_zones.proofs.ToldLemmas.{zone_labels, keys_reply, ds_reply, host_reply}
use Rattle.dns_bench_zones.proofs.PairLemmas.{Pair, IsPlainPair, answered, question_for, told_of, pair_set, placed_pair, judged_pair, chained_pair, pair_sets, pair_judged, pair_own, pair_starts, pair_asks, pair_after, pair_links, pair_given}
use Rattle.dns_bench_zones.proofs.ZoneKeyLemmas.{placed_keys, keys_question, keys_judged, keys_own, judged_keys_of, root_starts, keys_start, keys_ask, IsItsDs, chained_by_zone, keys_after, chained_links, keys_given}
use Rattle.dns_bench_zones.proofs.SignedLemmas.{signature_is_read, signed_pair, ds_accepted, host_accepted, proved_by_zone}
use Rattle.dns_bench_zones.proofs.WayLemmas.{HearsOne, Gets, Link, AsksOn, gets_at_once, gets_by_next, Ends, ends_by_next}

-- ---- the terms

abbrev pub bench_terms : ℕ → Terms
bench_terms n = record {
  judge = judge_of_zones n;
  query = host_question n;
  request = asking_request (host_question n) deep_options;
  options = deep_options;
  iterations = default_iterations;
  ranges = default_ranges;
  now = moment;
}

abbrev pub tells : ℕ → Question → Reply
tells n = reply_to (upstream n).replies

-- ---- the pairs

abbrev ds_pair : ℕ → Pair
ds_pair k = signed_pair k (ds_record (suc k))

abbrev pub host_pair : ℕ → Pair
host_pair n = signed_pair n (host_record n)

above_next : (k : ℕ) → at_or_above (zone_name k) (zone_name (suc k)) ≡ true
above_next k = above_one_more (zone_name k) (122 ∷ []) (zone_name k) (above_itself (zone_name k))

above_host : (n : ℕ) → at_or_above (zone_name n) (host_name n) ≡ true
above_host n = above_one_more (zone_name n) (119 ∷ 119 ∷ 119 ∷ []) (zone_name n) (above_itself (zone_name n))

not_next : (k : ℕ) → name_eq (zone_name k) (zone_name (suc k)) ≡ false
not_next k = by_test (name_eq (zone_name k) (zone_name (suc k))) refl
  where
    by_test : (b : Bool) → name_eq (zone_name k) (zone_name (suc k)) ≡ b → b ≡ false
    by_test true same =
        absurd (omega (arith, name_lengths (zone_name k) (zone_name (suc k)) same, zone_labels k, zone_labels (suc k)))
    by_test false same = refl

plain_ds : (k : ℕ) → k ≤ 100 → IsPlainPair (ds_pair k)
plain_ds k low = record {
  read = signature_is_read k low (ds_record (suc k));
  covered = refl;
  labels = refl;
  other = refl;
  keys = refl;
  own_keys = refl;
  nsec = refl;
  nsec3 = refl;
  fits = strictly_made (zone_name k) (zone_name (suc k)) (above_next k) (not_next k);
}

plain_host : (n : ℕ) → n ≤ 100 → IsPlainPair (host_pair n)
plain_host n low = record {
  read = signature_is_read n low (host_record n);
  covered = refl;
  labels = refl;
  other = refl;
  keys = refl;
  own_keys = refl;
  nsec = refl;
  nsec3 = refl;
  fits = above_host n;
}

-- ---- what is heard

abbrev hears_keys : (n k : ℕ) → k < n
    → HearsOne (bench_terms n) (tells n) (keys_question (suc k)) (NeedsDs (placed_keys (suc k)))
hears_keys n k low = record {
  message = message_with (keys_question (suc k)) (key_record (suc k) ∷ []);
  placed = placed_keys (suc k);
  told = rw (keys_reply n (suc k) (omega (arith, low))) refl;
  own = keys_own (suc k);
  starts = keys_start n k;
}

abbrev hears_root : (n : ℕ) → HearsOne (bench_terms n) (tells n) (keys_question 0) (Marked (root_starts n).c)
hears_root n = record {
  message = message_with (keys_question 0) (key_record 0 ∷ []);
  placed = placed_keys 0;
  told = rw (keys_reply n 0 (omega arith)) refl;
  own = keys_own 0;
  starts = (root_starts n).starts;
}

abbrev hears_ds : (n k : ℕ) → k < n → k ≤ 100
    → HearsOne (bench_terms n) (tells n) (question_for (ds_pair k)) (Trying (placed_pair (ds_pair k)) [])
hears_ds n k low most = record {
  message = message_with (question_for (ds_pair k)) (ds_record (suc k) ∷ signature_record k (ds_record (suc k)) ∷ []);
  placed = placed_pair (ds_pair k);
  told = rw (ds_reply n k low) refl;
  own = pair_own (ds_pair k);
  starts = pair_starts (judge_of_zones n) (ds_pair k) (plain_ds k most);
}

abbrev pub host_message : ℕ → MessageValue
host_message n = message_with (host_question n) (host_record n ∷ signature_record n (host_record n) ∷ [])

abbrev hears_host : (n : ℕ) → n ≤ 100
    → HearsOne (bench_terms n) (tells n) (host_question n) (Trying (placed_pair (host_pair n)) [])
hears_host n low = record {
  message = host_message n;
  placed = placed_pair (host_pair n);
  told = rw (host_reply n) refl;
  own = pair_own (host_pair n);
  starts = pair_starts (judge_of_zones n) (host_pair n) (plain_host n low);
}

ds_kept : (depth : ℕ) → is_judged_at depth type_ds ≡ true
ds_kept depth = by_test (depth == 0)
  where
    by_test : (b : Bool)
        → (b || (type_ds == type_dnskey) || true || (type_ds == 47) || (type_ds == 50) || (type_ds == 6)) ≡ true
    by_test true = refl
    by_test false = refl

-- ---- from zone to zone

-- what the question for a zone's keys gets
pub record KeysGot (n k : ℕ) : Type 0 where
  pub c : ChainedSet
  pub judged : c.judged ≡ judged_keys_of k
  pub links : length c.chain ≡ 3 * k + 2
  pub gets : Gets (bench_terms n) (tells n) (keys_question k) (2 * k + 1) c

root_got : (n : ℕ) → KeysGot n 0
root_got n =
    let root = root_starts n in
    record {
      c = root.c;
      judged = root.judged;
      links = root.links;
      gets =
          gets_at_once (bench_terms n) (tells n) (keys_question 0) root.c (hears_root n)
          (λ depth. keys_judged 0 (depth + 1)) (rw root.judged (keys_given _ 0));
    }

-- that for the DS set of the zone below it
record DsGot (n k : ℕ) : Type 0 where
  c : ChainedSet
  is : IsItsDs (suc k) c
  links : length c.chain ≡ 3 * k + 3
  gets : Gets (bench_terms n) (tells n) (question_for (ds_pair k)) (2 * k + 2) c

ds_got : (n k : ℕ) → k < n → k ≤ 100 → KeysGot n k → DsGot n k
ds_got n k low most keys =
    let p = ds_pair k in
    let plain = plain_ds k most in
    let accepted = ds_accepted n k low in
    let by =
    proved_by_zone n k most p.owner p.rtype p.rdata (above_next k) accepted keys.c keys.judged in
    let c = chained_pair p keys.c (key_record k) in
    let l : Link = record { phase = Trying (placed_pair p) []; next = keys_question k; got = keys.c; made = c } in
    let on : AsksOn (bench_terms n) (question_for p) (hears_ds n k low most).message l = record {
      asks = pair_asks p plain;
      gets = pair_after (judge_of_zones n) p keys.c (key_record k) plain by;
      given = pair_given _ p plain;
    } in
    let judged = λ (depth : ℕ). pair_judged p (depth + 1) plain (ds_kept (depth + 1)) in
    let total : 2 * k + 1 + 1 ≡ 2 * k + 2 = omega arith in
    record {
      c = c;
      is = record { secure = refl; of_zone = rw (name_refl (zone_name (suc k))) refl; records = refl };
      links = omega (arith, pair_links p keys.c (key_record k), keys.links);
      gets = subst (λ cost. Gets (bench_terms n) (tells n) (question_for p) cost c) total
          (gets_by_next (bench_terms n) (tells n) (question_for p) l (2 * k + 1) (hears_ds n k low most) judged on
          (omega arith) keys.gets);
    }

next_got : (n k : ℕ) → k < n → DsGot n k → KeysGot n (suc k)
next_got n k low ds =
    let q = keys_question (suc k) in
    let phase = NeedsDs (placed_keys (suc k)) in
    let c = chained_by_zone n (suc k) ds.c in
    let l : Link = record { phase = phase; next = question_for (ds_pair k); got = ds.c; made = c } in
    let on : AsksOn (bench_terms n) q (hears_keys n k low).message l =
    record { asks = keys_ask (suc k); gets = keys_after n k ds.c ds.is; given = keys_given _ (suc k) } in
    let total : 2 * k + 2 + 1 ≡ 2 * suc k + 1 = omega arith in
    record {
      c = c;
      judged = refl;
      links = omega (arith, chained_links n (suc k) ds.c, ds.links);
      gets = subst (λ cost. Gets (bench_terms n) (tells n) q cost c) total
          (gets_by_next (bench_terms n) (tells n) q l (2 * k + 2) (hears_keys n k low)
          (λ depth. keys_judged (suc k) (depth + 1)) on (omega arith) ds.gets);
    }

keys_got : (n k : ℕ) → k ≤ n → n ≤ 100 → KeysGot n k
keys_got n zero low most = root_got n
keys_got n (suc k) low most =
    let less : k < n = omega (arith, low) in
    next_got n k less (ds_got n k less (omega (arith, less, most)) (keys_got n k (omega (arith, low)) most))

-- ---- the host

-- how the lookup of the host ends
pub record HostGot (n : ℕ) : Type 0 where
  pub c : ChainedSet
  pub links : length c.chain ≡ 3 * n + 3
  pub ends : Ends (bench_terms n) (tells n) (host_question n) (host_message n) c (2 * n + 2)
  pub judged : c.judged ≡ judged_pair (host_pair n)

pub host_got : (n : ℕ) → n ≤ 100 → HostGot n
host_got n low =
    let p = host_pair n in
    let q = host_question n in
    let plain = plain_host n low in
    let keys = keys_got n n (omega arith) low in
    let by =
    proved_by_zone n n low p.owner p.rtype p.rdata (above_host n) (host_accepted n) keys.c keys.judged in
    let c = chained_pair p keys.c (key_record n) in
    let l : Link = record { phase = Trying (placed_pair p) []; next = keys_question n; got = keys.c; made = c } in
    let on : AsksOn (bench_terms n) q (host_message n) l = record {
      asks = pair_asks p plain;
      gets = pair_after (judge_of_zones n) p keys.c (key_record n) plain by;
      given = pair_given _ p plain;
    } in
    let total : 2 * n + 1 + 1 ≡ 2 * n + 2 = omega arith in
    record {
      c = c;
      links = omega (arith, pair_links p keys.c (key_record n), keys.links);
      ends = subst (λ count. Ends (bench_terms n) (tells n) q (host_message n) c count) total
          (ends_by_next (bench_terms n) (tells n) q l (2 * n + 1) (hears_host n low) (pair_judged p 0 plain refl) on
          (omega arith) (omega (arith, low)) (omega (arith, low)) keys.gets);
      judged = refl;
    }

-- ---- its records

-- an address and its signature are a straight reply
straight_pair : (j : Judge) (owner : Labels) (address text : List ℕ) (sig : RrsigValue) → rrsig_in text ≡ Some sig
    → sig.covered ≡ type_a
    → sig.labels ≡ num_labels owner
    → is_straight j (record { owner = owner; rtype = type_a; class = class_in })
    (answered (record_of owner type_a address ∷ record_of owner type_rrsig text ∷ [])) ≡ true
straight_pair j owner address text sig read covered labels =
    rw (name_refl owner, read, covered, labels, number_refl (num_labels owner)) refl

abbrev host_records : ℕ → List Rr
host_records n = host_record n ∷ signature_record n (host_record n) ∷ []

-- the host's address is there, and Secure
pub host_secure : (j : Judge) (n now : ℕ) → n ≤ 100
    → shows_secure (host_question n)
    (marked_section now (judged_pair (host_pair n) ∷ []) Answer (host_records n)) ≡ true
host_secure j n now low =
    let p = host_pair n in
    let q = host_question n in
    let told = told_of p in
    let straight =
    straight_pair j (host_name n) (host_record n).rdata (signature_record n (host_record n)).rdata
    (signature_by n (host_record n))
    (signature_is_read n low (host_record n)) refl refl in
    let one = straight_parts j q told refl straight in
    let same : pair_set p ≡ one.set =
    head_same (pair_set p) one.set (sym (pair_sets p (plain_host n low)) ∙ one.is.sets) in
    secure_records j q told one.set (judged_pair p) now refl one.is (record { section = refl; is = same; mark = refl })
  where
    head_same : (a b : RrSet) → a ∷ [] ≡ b ∷ [] → a ≡ b
    head_same a b h = cc
