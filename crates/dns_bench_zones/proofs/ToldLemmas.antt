-- What the upstream that tells of the zones replies to the questions for a zone's keys and for its DS set.
use Rattle.std.proofs.Common.{◌≡◌, ◌⊎◌, inl, inr, ℕ, zero, suc, ◌≤◌, ◌<◌, Bool, true, false, List, [], ◌∷◌, ◌++◌, length, refl, ap, ◌∙◌, arith, if◌then◌else◌}
use Rattle.std.specs.Prelude.{◌||◌}
use Rattle.std.specs.List.{list_any}
use Rattle.std.proofs.lemmas.Bool.{and_right, or_from, or_left, or_right}
use Rattle.std.proofs.lemmas.List.{length-replicate}
use Rattle.std.proofs.lemmas.List.Folds.{list_any-append}
use Rattle.dns_model.specs.Names.{name_eq}
use Rattle.dns_model.specs.Types.{class_in}
use Rattle.dns_model.specs.Records.{Question, question_eq}
use Rattle.dns_model.proofs.QuestionLemmas.{same_parts, question_refl}
use Rattle.dns_laws.proofs.RankLemmas.{name_lengths}
use Rattle.dns_rules.specs.Marks.{key_question}
use Rattle.dns_rules.specs.Delegations.{ds_question}
use Rattle.dns_handle.specs.Errors.{Reply}
use Rattle.dns_handle.specs.Handles.{reply_to}
use Rattle.dns_bench_zones.specs.NestedZones.{zone_name, host_question, host_told, zones_told, keys_told, ds_told, upstream}

-- ---- a list of replies

abbrev is_told : List (Question × Reply) → Question → Bool
is_told list q = list_any (λ told. question_eq told.0 q) list

-- a question of the front is answered there
told_before : (front back : List (Question × Reply)) (q : Question) → is_told front q ≡ true
    → reply_to (front ++ back) q ≡ reply_to front q
unfolding reply_to
told_before [] back q h = cc
told_before (told ∷ rest) back q h = by_first (question_eq told.0 q) h (λ later. told_before rest back q later)
  where
    by_first : (b : Bool) → (b || is_told rest q) ≡ true
        → (is_told rest q ≡ true → reply_to (rest ++ back) q ≡ reply_to rest q)
        → (if b then told.1 else reply_to (rest ++ back) q) ≡ (if b then told.1 else reply_to rest q)
    by_first true h later = refl
    by_first false h later = later h

-- and another one behind it
told_behind : (front back : List (Question × Reply)) (q : Question) → is_told front q ≡ false
    → reply_to (front ++ back) q ≡ reply_to back q
unfolding reply_to
told_behind [] back q h = refl
told_behind (told ∷ rest) back q h = by_first (question_eq told.0 q) h (λ later. told_behind rest back q later)
  where
    by_first : (b : Bool) → (b || is_told rest q) ≡ false
        → (is_told rest q ≡ false → reply_to (rest ++ back) q ≡ reply_to back q)
        → (if b then told.1 else reply_to (rest ++ back) q) ≡ reply_to back q
    by_first true h later = cc
    by_first false h later = later h

-- ---- the zones

pub zone_labels : (k : ℕ) → length (zone_name k) ≡ k
zone_labels k = length-replicate k (122 ∷ [])

-- names of other lengths aren't the same
pub apart_by_length : (a b : Question) → length a.owner < length b.owner → question_eq a b ≡ false
apart_by_length a b less = by_test (question_eq a b) refl
  where
    by_test : (x : Bool) → question_eq a b ≡ x → x ≡ false
    by_test true same = absurd (omega (arith, name_lengths a.owner b.owner (same_parts a b same).owner))
    by_test false same = refl

-- no zone down to one is asked for by the name of a deeper one
none_told : (n : ℕ) (q : Question) → n < length q.owner → is_told (zones_told n) q ≡ false
unfolding zones_told
none_told zero q less =
    let keys = (keys_told 0).0 in
    or_from (question_eq keys q) false (apart_by_length keys q (omega (arith, zone_labels 0))) refl
none_told (suc n) q less =
    let ds = (ds_told n).0 in
    let keys = (keys_told (suc n)).0 in
    let short = zone_labels (suc n) in
    let rest = or_from (question_eq keys q) false (apart_by_length keys q (omega (arith, short))) refl in
    list_any-append (λ told. question_eq told.0 q) (zones_told n) (ds_told n ∷ keys_told (suc n) ∷ [])
    ∙ or_from (is_told (zones_told n) q) (question_eq ds q || (question_eq keys q || false))
    (none_told n q (omega (arith, less)))
    (or_from (question_eq ds q) (question_eq keys q || false) (apart_by_length ds q (omega (arith, short))) rest)

-- a question, and its reply among those of the zones down to one
record IsTold (n : ℕ) (q : Question) (reply : Reply) : Type 0 where
  told : is_told (zones_told n) q ≡ true
  replied : reply_to (zones_told n) q ≡ reply

-- one zone more changes nothing
told_on : (n : ℕ) (q : Question) (reply : Reply) → IsTold n q reply → IsTold (suc n) q reply
unfolding zones_told
told_on n q reply is =
    let more = ds_told n ∷ keys_told (suc n) ∷ [] in
    record {
      told =
          list_any-append (λ told. question_eq told.0 q) (zones_told n) more
          ∙ or_left (is_told (zones_told n) q) (is_told more q) is.told;
      replied = told_before (zones_told n) more q is.told ∙ is.replied;
    }

either_or : (k n : ℕ) → k ≤ suc n → (k ≤ n) ⊎ (k ≡ suc n)
either_or zero n low = inl (omega arith)
either_or (suc k) zero low = inr (omega (arith, low))
either_or (suc k) (suc n) low = elim (either_or k n (omega (arith, low))) [
  | inl less ↦ inl (omega (arith, less))
  | inr same ↦ inr (ap suc same)
]

-- the last zone's
last_keys : (n : ℕ) → IsTold (suc n) (key_question class_in (zone_name (suc n))) (keys_told (suc n)).1
unfolding zones_told reply_to
last_keys n =
    let q = key_question class_in (zone_name (suc n)) in
    let more = ds_told n ∷ keys_told (suc n) ∷ [] in
    let none = none_told n q (omega (arith, zone_labels (suc n))) in
    let apart : question_eq (ds_told n).0 q ≡ false =
    and_right (name_eq (zone_name (suc n)) (zone_name (suc n))) false refl in
    let here : is_told more q ≡ true =
    or_right (question_eq (ds_told n).0 q) (question_eq q q || false)
    (or_left (question_eq q q) false (question_refl q)) in
    record {
      told =
          list_any-append (λ told. question_eq told.0 q) (zones_told n) more
          ∙ or_right (is_told (zones_told n) q) (is_told more q) here;
      replied =
          told_behind (zones_told n) more q none
          ∙ ap (λ b. if b then (ds_told n).1 else if question_eq q q then (keys_told (suc n)).1 else reply_to [] q)
          apart
          ∙ ap (λ b. if b then (keys_told (suc n)).1 else reply_to [] q) (question_refl q);
    }

last_ds : (n : ℕ) → IsTold (suc n) (ds_question class_in (zone_name (suc n))) (ds_told n).1
unfolding zones_told reply_to
last_ds n =
    let q = ds_question class_in (zone_name (suc n)) in
    let more = ds_told n ∷ keys_told (suc n) ∷ [] in
    let none = none_told n q (omega (arith, zone_labels (suc n))) in
    let here : is_told more q ≡ true =
    or_left (question_eq q q) (is_told (keys_told (suc n) ∷ []) q) (question_refl q) in
    record {
      told =
          list_any-append (λ told. question_eq told.0 q) (zones_told n) more
          ∙ or_right (is_told (zones_told n) q) (is_told more q) here;
      replied =
          told_behind (zones_told n) more q none
          ∙ ap (λ b. if b then (ds_told n).1 else reply_to (keys_told (suc n) ∷ []) q) (question_refl q);
    }

root_keys : IsTold 0 (key_question class_in (zone_name 0)) (keys_told 0).1
unfolding zones_told reply_to
root_keys =
    let q = key_question class_in (zone_name 0) in
    record {
      told = or_left (question_eq q q) false (question_refl q);
      replied = ap (λ b. if b then (keys_told 0).1 else reply_to [] q) (question_refl q);
    }

keys_are_told : (n k : ℕ) → k ≤ n → IsTold n (key_question class_in (zone_name k)) (keys_told k).1
keys_are_told zero zero low = root_keys
keys_are_told zero (suc k) low = absurd (omega (arith, low))
keys_are_told (suc n) k low = elim (either_or k n low) [
  | inl less ↦ told_on n (key_question class_in (zone_name k)) (keys_told k).1 (keys_are_told n k less)
  | inr same ↦ rw same (last_keys n)
]

ds_is_told : (n k : ℕ) → k < n → IsTold n (ds_question class_in (zone_name (suc k))) (ds_told k).1
ds_is_told zero k low = absurd (omega (arith, low))
ds_is_told (suc n) k low = elim (either_or (suc k) n (omega (arith, low))) [
  | inl less ↦ told_on n (ds_question class_in (zone_name (suc k))) (ds_told k).1 (ds_is_told n k (omega (arith, less)))
  | inr same ↦ let at : k ≡ n = omega (arith, same) in rw at (last_ds n)
]

-- ---- the upstream

-- the host's reply stands before those of the zones
behind_host : (n : ℕ) (q : Question) (reply : Reply) → question_eq (host_question n) q ≡ false → IsTold n q reply
    → reply_to (upstream n).replies q ≡ reply
unfolding reply_to
behind_host n q reply apart is =
    ap (λ b. if b then (host_told n).1 else reply_to (zones_told n) q) apart ∙ is.replied

pub keys_reply : (n k : ℕ) → k ≤ n
    → reply_to (upstream n).replies (key_question class_in (zone_name k)) ≡ (keys_told k).1
keys_reply n k low =
    let q = key_question class_in (zone_name k) in
    behind_host n q (keys_told k).1 (and_right (name_eq (host_question n).owner q.owner) false refl)
    (keys_are_told n k low)

pub ds_reply : (n k : ℕ) → k < n
    → reply_to (upstream n).replies (ds_question class_in (zone_name (suc k))) ≡ (ds_told k).1
ds_reply n k low =
    let q = ds_question class_in (zone_name (suc k)) in
    behind_host n q (ds_told k).1 (and_right (name_eq (host_question n).owner q.owner) false refl) (ds_is_told n k low)

pub host_reply : (n : ℕ) → reply_to (upstream n).replies (host_question n) ≡ (host_told n).1
unfolding reply_to
host_reply n =
    ap (λ b. if b then (host_told n).1 else reply_to (zones_told n) (host_question n)) (question_refl (host_question n))
