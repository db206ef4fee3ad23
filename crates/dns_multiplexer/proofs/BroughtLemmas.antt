-- Which events brought what waits, in two maps.
use Rattle.std.proofs.Common.{[], inl, inr, zero-add, ◌≡◌, ℕ, ◌+◌, ◌<◌, ◌≤◌, Bool, true, false, cond, List, ◌∷◌, ◌++◌, drop, length, Option, None, Some, refl, sym, ap, ◌∙◌, arith, slice_get, if◌then◌else◌, ◌⊎◌}
use Rattle.std.specs.Prelude.{◌==◌}
use Rattle.std.specs.Option.{option_map}
use Rattle.std.proofs.lemmas.Bool.{eqb-true, eq-eqb, ne_eqb, cond-true, cond-false, cases_lt}
use Rattle.std.proofs.lemmas.List.FromFn.{length-map-range_with_len, map-range_with_len_more}
use Rattle.std.proofs.lemmas.Option.{slice_get_past}
use Rattle.dns_handle.specs.Errors.{Reply}
use Rattle.dns_multiplexer.specs.declared.request_table.Holder.{Holder}
use Rattle.dns_multiplexer.specs.Machine.{changed_at}
use Rattle.dns_multiplexer.specs.Brought.{brought_at, with_event}
use Rattle.dns_multiplexer.specs.Tables.{ItemQueueValue, events_in, events_of, IsTable, QueueChanged, IsAdded, IsUnadded, takes_item, pushed, without_item, first_event}
use Rattle.dns_multiplexer.proofs.ListLemmas.{map-range, changed-map, get-range}
use Rattle.dns_multiplexer.proofs.TableLemmas.{Holders, Queues}
use Rattle.dns_multiplexer.proofs.TableCallLemmas.{unadded_queue}

-- the event of an item that a queue takes stands behind the others
pub pushed_brought : (g h : Queues) (count number : ℕ) (item : Reply) (event : ℕ)
    → QueueChanged g h number (pushed item event) → takes_item (g number) ≡ true
    → events_of h count ≡ changed_at number (with_event event) (events_of g count)
pushed_brought g h count number item event changed takes =
    changed-map (λ n. events_in (g n)) (λ n. events_in (h n)) (with_event event) number count
    (λ n below. ap events_in (changed n) ∙ at-number n (number == n) refl)
  where
    at-queue : (q : Option ItemQueueValue) → takes_item q ≡ true
        → events_in (option_map (pushed item event) q) ≡ with_event event (events_in q)
    at-queue None takes = cc
    at-queue (Some q) takes = rw takes refl

    at-number : (n : ℕ) (b : Bool) → (number == n) ≡ b
        → events_in (if b then option_map (pushed item event) (g n) else g n) ≡ cond b
        (with_event event (events_in (g n))) (events_in (g n))
    at-number n true same = at-queue (g n) (ap (λ m. takes_item (g m)) (sym (eqb-true number n same)) ∙ takes)
    at-number n false same = refl

-- that of one that it doesn't take isn't kept
pub unpushed_brought : (g h : Queues) (count number : ℕ) (item : Reply) (event : ℕ)
    → QueueChanged g h number (pushed item event) → takes_item (g number) ≡ false
    → events_of h count ≡ events_of g count
unpushed_brought g h count number item event changed full =
    map-range (λ n. events_in (h n)) (λ n. events_in (g n)) 0 count
    (λ n low high. ap events_in (changed n) ∙ at-number n (number == n) refl)
  where
    at-queue : (q : Option ItemQueueValue) → takes_item q ≡ false
        → events_in (option_map (pushed item event) q) ≡ events_in q
    at-queue None full = refl
    at-queue (Some q) full = rw full refl

    at-number : (n : ℕ) (b : Bool) → (number == n) ≡ b
        → events_in (if b then option_map (pushed item event) (g n) else g n) ≡ events_in (g n)
    at-number n true same = at-queue (g n) (ap (λ m. takes_item (g m)) (sym (eqb-true number n same)) ∙ full)
    at-number n false same = refl

pub popped_brought : (g h : Queues) (count number : ℕ) → QueueChanged g h number without_item
    → events_of h count ≡ changed_at number (drop 1) (events_of g count)
popped_brought g h count number changed =
    changed-map (λ n. events_in (g n)) (λ n. events_in (h n)) (drop 1) number count
    (λ n below. ap events_in (changed n) ∙ at-number n (number == n))
  where
    at-queue : (q : Option ItemQueueValue) → events_in (option_map without_item q) ≡ drop 1 (events_in q)
    at-queue None = refl
    at-queue (Some q) = refl

    at-number : (n : ℕ) (b : Bool) → events_in (if b then option_map without_item (g n) else g n) ≡ cond b
        (drop 1 (events_in (g n))) (events_in (g n))
    at-number n true = at-queue (g n)
    at-number n false = refl

-- a queue that is gone has none
pub gone_brought : (g new_g : Queues) (count number : ℕ)
    → ((n : ℕ) → new_g n ≡ (if number == n then None else g n))
    → events_of new_g count ≡ changed_at number (λ own. []) (events_of g count)
gone_brought g new_g count number gone =
    changed-map (λ n. events_in (g n)) (λ n. events_in (new_g n)) (λ own. []) number count
    (λ n below. ap events_in (gone n) ∙ at-number n (number == n))
  where
    at-number : (n : ℕ) (b : Bool) → events_in (if b then None else g n) ≡ cond b [] (events_in (g n))
    at-number n true = refl
    at-number n false = refl

pub forgotten_brought : (g new_g : Queues) (count number : ℕ)
    → ((n : ℕ) → new_g n ≡ (if number == n then None else g n)) → events_in (g number) ≡ []
    → events_of new_g count ≡ events_of g count
forgotten_brought g new_g count number gone none =
    map-range (λ n. events_in (new_g n)) (λ n. events_in (g n)) 0 count
    (λ n low high. ap events_in (gone n) ∙ at-number n (number == n) refl)
  where
    at-number : (n : ℕ) (b : Bool) → (number == n) ≡ b → events_in (if b then None else g n) ≡ events_in (g n)
    at-number n true same = sym (ap (λ m. events_in (g m)) (sym (eqb-true number n same)) ∙ none)
    at-number n false other = refl

-- ---- one request more

pub added_brought : (f new_f : Holders) (g new_g : Queues) (count id : ℕ) (holder : Holder) → holder.number ≡ count
    → IsAdded f g id holder new_f new_g → events_of new_g (count + 1) ≡ events_of g count ++ [] ∷ []
added_brought f new_f g new_g count id holder number added =
    map-range_with_len_more (λ n. events_in (new_g n)) 0 count count (zero-add count)
    ∙ rw (map-range (λ n. events_in (new_g n)) (λ n. events_in (g n)) 0 count (λ n low high. others n (omega (arith, high))), newest) refl
  where
    others : (n : ℕ) → n < count → events_in (new_g n) ≡ events_in (g n)
    others n below = ap events_in
        (added.queued n ∙ cond-false (holder.number == n) _ (g n) (ne_eqb holder.number n (λ h. omega (arith, below, number, h))))

    newest : events_in (new_g count) ≡ []
    newest = rw (added.queued count, eq-eqb holder.number count number) refl

pub unadded_brought : (f new_f : Holders) (g new_g : Queues) (count : ℕ) → IsTable f g count
    → IsUnadded f g count new_f new_g → events_of new_g count ≡ events_of g count
unadded_brought f new_f g new_g count table unadded =
    map-range (λ n. events_in (new_g n)) (λ n. events_in (g n)) 0 count
    (λ n low high. ap events_in (unadded_queue f new_f g new_g count n table unadded))

-- ---- the events of one request

pub length_brought : (g : Queues) (count : ℕ) → length (events_of g count) ≡ count
length_brought g count = length-map-range_with_len (λ n. events_in (g n)) 0 count

pub at-case : (f : Holders) (g : Queues) (count n : ℕ) → IsTable f g count → (n < count) ⊎ (count ≤ n)
    → brought_at (events_of g count) n ≡ events_in (g n)
at-case f g count n table (inl below) = rw (get-range (λ m. events_in (g m)) n 0 count below, zero-add n) refl
at-case f g count n table (inr above) =
    rw (
      slice_get_past (events_of g count) n (omega (arith, length-map-range_with_len (λ m. events_in (g m)) 0 count, above)),
      table.known n above,
    ) refl

pub brought_in_table : (f : Holders) (g : Queues) (count n : ℕ) → IsTable f g count
    → brought_at (events_of g count) n ≡ events_in (g n)
brought_in_table f g count n table = at-case f g count n table (cases_lt n count)

pub first_is : (q : Option ItemQueueValue) → first_event q ≡ slice_get (events_in q) 0
first_is None = refl
first_is (Some q) = refl

-- the first event that is left, by the table
pub first_in_table : (f : Holders) (g : Queues) (count n : ℕ) → IsTable f g count
    → first_event (g n) ≡ slice_get (brought_at (events_of g count) n) 0
first_in_table f g count n table = first_is (g n) ∙ ap (λ own. slice_get own 0) (sym (brought_in_table f g count n table))

no-events : (events : List ℕ) → None ≡ slice_get events 0 → events ≡ []
no-events [] is = refl
no-events (e ∷ es) is = cc

-- none is left where the first was asked for in vain
pub none_brought : (f : Holders) (g h : Queues) (count n : ℕ) → IsTable f h count → QueueChanged g h n without_item
    → None ≡ first_event (g n) → brought_at (events_of h count) n ≡ []
none_brought f g h count n table changed none =
    brought_in_table f h count n table
    ∙ ap events_in (changed n ∙ cond-true (n == n) (option_map without_item (g n)) (g n) (eq-eqb n n refl))
    ∙ left-case (g n) none
  where
    left-case : (q : Option ItemQueueValue) → None ≡ first_event q → events_in (option_map without_item q) ≡ []
    left-case None none = refl
    left-case (Some q) none = ap (drop 1) (no-events q.events none)
