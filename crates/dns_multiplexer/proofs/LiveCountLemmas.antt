-- Requests in two maps: how many are live.
use Rattle.std.proofs.Common.{[], inl, inr, zero-add, ◌≡◌, ℕ, zero, suc, ◌+◌, ◌<◌, Bool, true, false, cond, List, ◌∷◌, map, length, Option, None, Some, refl, sym, ap, ◌∙◌, arith, slice_get, ◌⊎◌}
use Rattle.std.specs.Prelude.{◌==◌, is_some}
use Rattle.std.specs.List.{range_with_len}
use Rattle.std.proofs.lemmas.Bool.{eq-eqb, ne_eqb, cond-true, cond-false, cases_eq}
use Rattle.std.proofs.lemmas.List.Sums.{sum_by-cons}
use Rattle.std.proofs.lemmas.Bool.{cases_order}
use Rattle.std.proofs.lemmas.Map.{lookup-none}
use Rattle.std.proofs.lemmas.Map.Entries.{none_past_head}
use Rattle.std.proofs.lemmas.Map.Keys.{IsDistinct-tail, IsDistinct-from_sorted}
use Rattle.std.specs.Map.{lookup, keys_of}
use Rattle.std.specs.List.{IsDistinct}
use Rattle.std.specs.Ordering.{nat_cmp, eq_by_cmp, is_eq}
use Rattle.std.specs.declared.cmp.Ordering.TheVariants.{Less, Equal, Greater}
use Rattle.std.specs.Cmp.{eq_by_cmp_equiv, nat_cmp_is, nat_cmp_total}
use Rattle.std.specs.BTreeMap as tree
use Rattle.std.specs.BTreeMap.{BTreeMap}
use Rattle.dns_handle.specs.Errors.{Reply}
use Rattle.dns_multiplexer.specs.declared.request_table.Holder.{Holder}
use Rattle.dns_multiplexer.specs.Machine.{Life, Request, changed_at, live_count}
use Rattle.dns_multiplexer.specs.Tables.{ItemQueueValue, life_under, request_in, request_at, requests_of, id_of_queue, IsTable}
use Rattle.dns_multiplexer.proofs.ListLemmas.{changed-map, get-range}
use Rattle.dns_multiplexer.proofs.TableLemmas.{Holders, Queues, none-holder, some-id}

-- ---- how many are live

pub live-step : (x : Request) (xs : List Request) → live_count (x ∷ xs) ≡ cond (is_some x.life) 1 0 + live_count xs
live-step x xs = sum_by-cons (λ r. cond (is_some r.life) 1 0) x xs

pub plus-one : (n : ℕ) → 1 + n ≡ n + 1
plus-one n = omega arith

-- one more is live, or not
pub live-one : (x : Request) (xs : List Request) → is_some x.life ≡ true → live_count (x ∷ xs) ≡ live_count xs + 1
live-one x xs live = live-step x xs ∙ ap (λ b. cond b 1 0 + live_count xs) live ∙ plus-one (live_count xs)

pub live-not : (x : Request) (xs : List Request) → is_some x.life ≡ false → live_count (x ∷ xs) ≡ live_count xs
live-not x xs over = live-step x xs ∙ ap (λ b. cond b 1 0 + live_count xs) over ∙ zero-add (live_count xs)

pub unlive : (F : ℕ → Request) (a c : ℕ) → ((n : ℕ) → (F n).life ≡ None) → live_count (map F (range_with_len a c)) ≡ 0
unlive F a zero none = refl
unlive F a (suc c) none = live-not (F a) (map F (range_with_len (a + 1) c)) (ap is_some (none a))
    ∙ unlive F (a + 1) c none

pub live-head : (change : Request → Request) (x : Request) (xs : List Request) → is_some x.life ≡ false
    → is_some (change x).life ≡ true
    → live_count (change x ∷ xs) ≡ live_count (x ∷ xs) + 1
live-head change x xs over live = live-one (change x) xs live ∙ ap (λ n. n + 1) (sym (live-not x xs over))

pub tail-case : (x : Request) (xs ys : List Request) (b : Bool) → is_some x.life ≡ b
    → live_count ys ≡ live_count xs + 1 → live_count (x ∷ ys) ≡ live_count (x ∷ xs) + 1
tail-case x xs ys true live more = live-one x ys live ∙ ap (λ n. n + 1) more
    ∙ ap (λ n. n + 1) (sym (live-one x xs live))
tail-case x xs ys false over more = live-not x ys over ∙ more ∙ ap (λ n. n + 1) (sym (live-not x xs over))

pub live-tail : (x : Request) (xs ys : List Request) → live_count ys ≡ live_count xs + 1
    → live_count (x ∷ ys) ≡ live_count (x ∷ xs) + 1
live-tail x xs ys more = tail-case x xs ys (is_some x.life) refl more

pub live-changed : (k : ℕ) (change : Request → Request) (xs : List Request) (x : Request) → slice_get xs k ≡ Some x
    → is_some x.life ≡ false → is_some (change x).life ≡ true
    → live_count (changed_at k change xs) ≡ live_count xs + 1
unfolding changed_at
live-changed k change [] x is over live = cc
live-changed zero change (y ∷ ys) x is over live =
    let same : y ≡ x = some-request y x is in
    live-head change y ys (ap (λ r. is_some r.life) same ∙ over) (ap (λ r. is_some (change r).life) same ∙ live)
  where
    some-request : (a b : Request) → Some a ≡ Some b → a ≡ b
    some-request a b h = cc
live-changed (suc k) change (y ∷ ys) x is over live = live-tail y ys (changed_at k change ys)
    (live-changed k change ys x is over live)

abbrev pub same_id : ℕ → ℕ → Bool
same_id = eq_by_cmp nat_cmp

-- equal numbers tie
pub ordering-case : (a b : ℕ) (d : (a ≡ b) ⊎ ((a < b) ⊎ (b < a))) → same_id a b ≡ (a == b)
ordering-case a b (inl same) = sym (ap is_eq (nat_cmp_is a b Equal same)) ∙ sym (eq-eqb a b same)
ordering-case a b (inr (inl below)) = sym (ap is_eq (nat_cmp_is a b Less below))
    ∙ sym (ne_eqb a b (λ e. omega (arith, below, e)))
ordering-case a b (inr (inr above)) = sym (ap is_eq (nat_cmp_is a b Greater above))
    ∙ sym (ne_eqb a b (λ e. omega (arith, above, e)))

pub same_id_is : (a b : ℕ) → same_id a b ≡ (a == b)
same_id_is a b = ordering-case a b (cases_order a b)

abbrev pub request_with : List Reply → Option Life → Request
request_with items life = record { life = life; waiting = items }

pub add-one : (n : ℕ) → n + 1 ≡ suc n
add-one n = omega arith

-- with an entry more, one request more is live
module _ (g : Queues) (count id : ℕ) (holder : Holder) (es : List (ℕ × Holder))
    (distinct : IsDistinct same_id (keys_of ((id, holder) ∷ es)))
    (below : holder.number < count) (queued : id_of_queue (g holder.number) ≡ Some id) where
  abbrev less : Holders
  less i = lookup (same_id i) es

  abbrev more : Holders
  more i = lookup (same_id i) ((id, holder) ∷ es)

  pub absent : less id ≡ None
  absent = lookup-none (same_id id) es
      (none_past_head (eq_by_cmp_equiv nat_cmp_total) id (id, holder) es distinct (same_id_is id id ∙ eq-eqb id id refl))

  pub more-here : more id ≡ Some holder
  more-here = rw (same_id_is id id ∙ eq-eqb id id refl) refl

  pub more-other : (i : ℕ) → (id ≡ i → ⊥) → more i ≡ less i
  more-other i apart = rw (same_id_is i id ∙ ne_eqb i id (λ same. apart (sym same))) refl

  abbrev revived : Request → Request
  revived r = record r { life = Some (record { id = id; moment = holder.moment }) }

  pub more-life : (i n : ℕ) → (holder.number ≡ n → ⊥) → (d : (id ≡ i) ⊎ (id ≡ i → ⊥))
      → life_under i n (more i) ≡ life_under i n (less i)
  more-life i n apart (inl same) =
      ap (λ j. life_under j n (more j)) (sym same) ∙ ap (life_under id n) more-here
      ∙ cond-false (holder.number == n) (Some (record { id = id; moment = holder.moment })) None
      (ne_eqb holder.number n apart)
      ∙ sym (ap (life_under id n) absent) ∙ ap (λ j. life_under j n (less j)) same
  more-life i n apart (inr other) = ap (life_under i n) (more-other i other)

  pub more-request : (n : ℕ) → (holder.number ≡ n → ⊥) → (q : Option ItemQueueValue)
      → request_in more n q ≡ request_in less n q
  more-request n apart None = refl
  more-request n apart (Some q) = rw (more-life q.id n apart (cases_eq id q.id)) refl

  pub revived-request : (n : ℕ) → holder.number ≡ n → (q : Option ItemQueueValue) → id_of_queue q ≡ Some id
      → request_in more n q ≡ revived (request_in less n q)
  revived-request n same None own = cc
  revived-request n same (Some q) own =
      ap (request_with q.items)
      (ap (λ j. life_under j n (more j)) (some-id q.id id own) ∙ ap (life_under id n) more-here
      ∙ cond-true (holder.number == n) (Some (record { id = id; moment = holder.moment })) None
      (eq-eqb holder.number n same))

  pub less-life : (n : ℕ) (q : Option ItemQueueValue) → id_of_queue q ≡ Some id → is_some (request_in less n q).life ≡ false
  less-life n None own = refl
  less-life n (Some q) own = rw (some-id q.id id own, absent) refl

  pub at-number : (n : ℕ) (d : (holder.number ≡ n) ⊎ (holder.number ≡ n → ⊥))
      → request_at more g n ≡ cond (holder.number == n) (revived (request_at less g n)) (request_at less g n)
  at-number n (inl same) = revived-request n same (g n) (ap (λ m. id_of_queue (g m)) (sym same) ∙ queued)
      ∙ sym (cond-true (holder.number == n) _ _ (eq-eqb holder.number n same))
  at-number n (inr apart) = more-request n apart (g n)
      ∙ sym (cond-false (holder.number == n) _ _ (ne_eqb holder.number n apart))

  pub one-more-live : live_count (requests_of more g count) ≡ live_count (requests_of less g count) + 1
  one-more-live =
      ap live_count (changed-map (request_at less g) (request_at more g) revived holder.number count
      (λ n low. at-number n (cases_eq holder.number n)))
      ∙ live-changed holder.number revived (requests_of less g count) (request_at less g (0 + holder.number))
      (get-range (request_at less g) holder.number 0 count below)
      (ap (λ n. is_some (request_at less g n).life) (zero-add holder.number) ∙ less-life holder.number (g holder.number) queued) refl

  pub tail-held : (i : ℕ) (h : Holder) (d : (id ≡ i) ⊎ (id ≡ i → ⊥)) → less i ≡ Some h → more i ≡ Some h
  tail-held i h (inl same) is = absurd (none-holder h (sym (ap less (sym same) ∙ absent) ∙ is))
  tail-held i h (inr apart) is = more-other i apart ∙ is

pub entries-live : (g : Queues) (count : ℕ) (es : List (ℕ × Holder)) → IsDistinct same_id (keys_of es)
    → ((id : ℕ) (holder : Holder) → lookup (same_id id) es ≡ Some holder
    → (holder.number < count) × (id_of_queue (g holder.number) ≡ Some id))
    → live_count (requests_of (λ i. lookup (same_id i) es) g count) ≡ length es
entries-live g count [] distinct held = unlive (request_at (λ i. None) g) 0 count (λ n. empty-life n (g n))
  where
    empty-life : (n : ℕ) (q : Option ItemQueueValue) → (request_in (λ i. None) n q).life ≡ None
    empty-life n None = refl
    empty-life n (Some q) = refl
entries-live g count (e ∷ es) distinct held =
    let first = held e.0 e.1 (rw (same_id_is e.0 e.0 ∙ eq-eqb e.0 e.0 refl) refl) in
    let rest : live_count (requests_of (λ i. lookup (same_id i) es) g count) ≡ length es =
    entries-live g count es (IsDistinct-tail same_id e.0 (keys_of es) distinct)
    (λ id h is. held id h (tail-held g count e.0 e.1 es distinct first.0 first.1 id h (cases_eq e.0 id) is)) in
    one-more-live g count e.0 e.1 es distinct first.0 first.1 ∙ ap (λ n. n + 1) rest ∙ add-one (length es)

-- as many as the map has entries
pub live_in_table : (m : BTreeMap ℕ Holder) (g : Queues) (count : ℕ) → tree.IsOrdered nat_cmp m
    → IsTable (tree.get nat_cmp m) g count
    → live_count (requests_of (tree.get nat_cmp m) g count) ≡ tree.btree_map_len m
live_in_table m g count ordered table = entries-live g count m.entries
    (IsDistinct-from_sorted nat_cmp (keys_of m.entries) ordered) table.held
