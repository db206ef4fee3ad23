-- Requests in two maps: one queue is changed, who holds an id, and what stands at a number.
use Rattle.std.proofs.Common.{inl, inr, zero-add, ◌≡◌, ℕ, ◌<◌, ◌≤◌, Bool, true, false, cond, length, Option, None, Some, refl, sym, ap, ◌∙◌, arith, slice_get, if◌then◌else◌, ◌⊎◌}
use Rattle.std.specs.Prelude.{◌==◌, is_some}
use Rattle.std.specs.List.{position, position_from}
use Rattle.std.specs.Option.{option_map}
use Rattle.std.proofs.lemmas.Bool.{eqb-true, eq-eqb, ne_eqb, cases_eq, cases_lt}
use Rattle.std.proofs.lemmas.List.FromFn.{length-map-range_with_len}
use Rattle.std.proofs.lemmas.Option.{slice_get_past}
use Rattle.dns_handle.specs.Errors.{Reply}
use Rattle.dns_multiplexer.specs.declared.request_table.Holder.{Holder}
use Rattle.dns_multiplexer.specs.Machine.{Request, has_room, changed_at, with_item, without_first, has_id, lives_under, is_taken_id, waiting_of}
use Rattle.dns_multiplexer.specs.Runs.{life_of}
use Rattle.dns_multiplexer.specs.Tables.{ItemQueueValue, life_under, request_in, request_at, requests_of, id_of_queue, IsTable, QueueChanged, takes_item, pushed, without_item}
use Rattle.dns_multiplexer.proofs.ListLemmas.{map-range, changed-map, none-range, some-range, no_position, one_position, position_is, get-range}

abbrev pub Holders : Type 0
Holders = ℕ → Option Holder

abbrev pub Queues : Type 0
Queues = ℕ → Option ItemQueueValue

-- ---- one queue is changed

-- a change of a queue is a change of its request
pub record Alike (change : ItemQueueValue → ItemQueueValue) (request_change : Request → Request) : Type 0 where
  pub some : (f : Holders) (n : ℕ) (q : ItemQueueValue)
      → request_in f n (Some (change q)) ≡ request_change (request_in f n (Some q))

pub queue-case : (f : Holders) (n : ℕ) (change : ItemQueueValue → ItemQueueValue)
    (request_change : Request → Request) (q : Option ItemQueueValue)
    → Alike change request_change → (q ≡ None → request_in f n None ≡ request_change (request_in f n None)) → (b : Bool)
    → request_in f n (if b then option_map change q else q) ≡ cond b (request_change (request_in f n q))
    (request_in f n q)
queue-case f n change request_change q alike none false = refl
queue-case f n change request_change None alike none true = none refl
queue-case f n change request_change (Some q) alike none true = alike.some f n q

-- the list after a change of one queue
pub queue_changed : (f : Holders) (g h : Queues) (count number : ℕ) (change : ItemQueueValue → ItemQueueValue)
    (request_change : Request → Request)
    → QueueChanged g h number change
    → ((f : Holders) (n : ℕ) (q : ItemQueueValue) → request_in f n (Some (change q)) ≡ request_change (request_in f n (Some q)))
    → ((n : ℕ) → number ≡ n → g n ≡ None → request_in f n None ≡ request_change (request_in f n None))
    → requests_of f h count ≡ changed_at number request_change (requests_of f g count)
queue_changed f g h count number change request_change changed alike none =
    changed-map (request_at f g) (request_at f h) request_change number count
    (λ n below. ap (request_in f n) (changed n) ∙ at-number n (number == n) refl)
  where
    at-number : (n : ℕ) (b : Bool) → (number == n) ≡ b
        → request_in f n (if b then option_map change (g n) else g n) ≡ cond b
        (request_change (request_at f g n)) (request_at f g n)
    at-number n true same = queue-case f n change request_change (g n) (record { some = alike })
        (none n (eqb-true number n same)) true
    at-number n false same = refl

-- the table stays one, where no id is changed
pub kept-id : (change : ItemQueueValue → ItemQueueValue) → ((q : ItemQueueValue) → (change q).id ≡ q.id)
    → (q : Option ItemQueueValue) (b : Bool) → id_of_queue (if b then option_map change q else q) ≡ id_of_queue q
kept-id change same None true = refl
kept-id change same (Some q) true = ap Some (same q)
kept-id change same q false = refl

pub none-changed : (change : ItemQueueValue → ItemQueueValue) (b : Bool)
    → (if b then option_map change None else None) ≡ None
none-changed change true = refl
none-changed change false = refl

pub table_changed : (f : Holders) (g h : Queues) (count number : ℕ) (change : ItemQueueValue → ItemQueueValue)
    → ((q : ItemQueueValue) → (change q).id ≡ q.id)
    → QueueChanged g h number change → IsTable f g count → IsTable f h count
table_changed f g h count number change same changed table = record {
  held = λ id holder is. (
    (table.held id holder is).0,
    ap id_of_queue (changed holder.number)
        ∙ kept-id change same (g holder.number) (number == holder.number) ∙ (table.held id holder is).1,
  );
  known = λ n above. changed n ∙ ap (λ q. if number == n then option_map change q else q) (table.known n above)
      ∙ none-changed change (number == n);
}

-- ---- an item is put behind the others, or the first is taken

pub push-case : (item : Reply) (event : ℕ) (q : ItemQueueValue) (b : Bool) → has_room q.items ≡ b
    → (pushed item event q).id ≡ q.id
push-case item event q true room = rw room refl
push-case item event q false room = rw room refl

pub pushed_id : (item : Reply) (event : ℕ) (q : ItemQueueValue) → (pushed item event q).id ≡ q.id
pushed_id item event q = push-case item event q _ refl

-- an item that a queue takes waits for its request
pub pushed_table : (f : Holders) (g h : Queues) (count number : ℕ) (item : Reply) (event : ℕ)
    → QueueChanged g h number (pushed item event) → takes_item (g number) ≡ true
    → requests_of f h count ≡ changed_at number (with_item item) (requests_of f g count)
pushed_table f g h count number item event changed takes =
    changed-map (request_at f g) (request_at f h) (with_item item) number count
    (λ n below. ap (request_in f n) (changed n) ∙ at-number n (number == n) refl)
  where
    at-queue : (n : ℕ) (q : Option ItemQueueValue) → takes_item q ≡ true
        → request_in f n (option_map (pushed item event) q) ≡ with_item item (request_in f n q)
    at-queue n None takes = cc
    at-queue n (Some q) takes = rw takes refl

    at-number : (n : ℕ) (b : Bool) → (number == n) ≡ b
        → request_in f n (if b then option_map (pushed item event) (g n) else g n) ≡ cond b
        (with_item item (request_at f g n)) (request_at f g n)
    at-number n true same = at-queue n (g n) (ap (λ m. takes_item (g m)) (sym (eqb-true number n same)) ∙ takes)
    at-number n false same = refl

-- one that it doesn't take leaves all as they were
pub unpushed_table : (f : Holders) (g h : Queues) (count number : ℕ) (item : Reply) (event : ℕ)
    → QueueChanged g h number (pushed item event) → takes_item (g number) ≡ false
    → requests_of f h count ≡ requests_of f g count
unpushed_table f g h count number item event changed full =
    map-range (request_at f h) (request_at f g) 0 count
    (λ n low high. ap (request_in f n) (changed n) ∙ at-number n (number == n) refl)
  where
    at-queue : (n : ℕ) (q : Option ItemQueueValue) → takes_item q ≡ false
        → request_in f n (option_map (pushed item event) q) ≡ request_in f n q
    at-queue n None full = refl
    at-queue n (Some q) full = rw full refl

    at-number : (n : ℕ) (b : Bool) → (number == n) ≡ b
        → request_in f n (if b then option_map (pushed item event) (g n) else g n) ≡ request_at f g n
    at-number n true same = at-queue n (g n) (ap (λ m. takes_item (g m)) (sym (eqb-true number n same)) ∙ full)
    at-number n false same = refl

pub popped_table : (f : Holders) (g h : Queues) (count number : ℕ) → QueueChanged g h number without_item
    → requests_of f h count ≡ changed_at number without_first (requests_of f g count)
popped_table f g h count number changed =
    queue_changed f g h count number without_item without_first changed (λ f n q. refl) (λ n same none. refl)

-- ---- who holds an id

abbrev pub holds : Option Holder → ℕ → Bool
holds None n = false
holds (Some holder) n = holder.number == n

-- the request with a number lives under an id exactly where it holds the id
pub under-case : (f : Holders) (id n : ℕ) (q : ItemQueueValue) (d : (q.id ≡ id) ⊎ (q.id ≡ id → ⊥))
    (h : Option Holder) → f id ≡ h
    → ((holder : Holder) → f id ≡ Some holder → holder.number ≡ n → q.id ≡ id)
    → lives_under id (life_under q.id n (f q.id)) ≡ holds (f id) n
under-case f id n q (inl same) None none own = rw (same, none) refl
under-case f id n q (inl same) (Some holder) some own = rw (same, some) (number-case holder (holder.number == n))
  where
    number-case : (holder : Holder) (b : Bool)
        → lives_under id (if b then Some (record { id = id; moment = holder.moment }) else None) ≡ b
    number-case holder true = eq-eqb id id refl
    number-case holder false = refl
under-case f id n q (inr apart) h is own = other-life (f q.id) ∙ sym (not-held h is)
  where
    other-number : (holder : Holder) (b : Bool)
        → lives_under id (if b then Some (record { id = q.id; moment = holder.moment }) else None) ≡ false
    other-number holder true = ne_eqb q.id id apart
    other-number holder false = refl

    other-life : (o : Option Holder) → lives_under id (life_under q.id n o) ≡ false
    other-life None = refl
    other-life (Some holder) = other-number holder (holder.number == n)

    not-held : (o : Option Holder) → f id ≡ o → holds (f id) n ≡ false
    not-held None none = rw none refl
    not-held (Some holder) some = rw some (ne_eqb holder.number n (λ same. apart (own holder some same)))

pub none-id : (id : ℕ) → None ≡ Some id → ⊥
none-id id h = cc

pub none-holder : (h : Holder) → None ≡ Some h → ⊥
none-holder h is = cc

pub some-id : (a b : ℕ) → Some a ≡ Some b → a ≡ b
some-id a b h = cc

pub at-queue-case : (f : Holders) (g : Queues) (count id n : ℕ) → IsTable f g count → (q : Option ItemQueueValue)
    → g n ≡ q → lives_under id (life_of (Some (request_in f n q))) ≡ holds (f id) n
at-queue-case f g count id n table None none = sym (unheld (f id) refl)
  where
    unheld : (o : Option Holder) → f id ≡ o → holds (f id) n ≡ false
    unheld None is = rw is refl
    unheld (Some holder) is = rw is
        (ne_eqb holder.number n (λ same. none-id id (sym (ap id_of_queue (ap g same ∙ none)) ∙ (table.held id holder is).1)))
at-queue-case f g count id n table (Some q) some =
    under-case f id n q (cases_eq q.id id) (f id) refl
    (λ holder is same. some-id q.id id (sym (ap id_of_queue (ap g same ∙ some)) ∙ (table.held id holder is).1))

pub lives_where_held : (f : Holders) (g : Queues) (count id n : ℕ) → IsTable f g count
    → has_id id (request_at f g n) ≡ holds (f id) n
lives_where_held f g count id n table = at-queue-case f g count id n table (g n) refl

-- an id is taken where somebody holds it
pub taken_id : (f : Holders) (g : Queues) (count id : ℕ) → IsTable f g count
    → is_taken_id (requests_of f g count) id ≡ is_some (f id)
taken_id f g count id table = taken-case (f id) refl
  where
    taken-case : (o : Option Holder) → f id ≡ o → is_taken_id (requests_of f g count) id ≡ is_some (f id)
    taken-case None none = none-range (request_at f g) (has_id id) 0 count
        (λ n. lives_where_held f g count id n table ∙ rw none refl) ∙ rw none refl
    taken-case (Some holder) some =
        some-range (request_at f g) (has_id id) holder.number 0 count (omega arith)
        (omega (arith, (table.held id holder some).0))
        (lives_where_held f g count id holder.number table ∙ rw some (eq-eqb holder.number holder.number refl))
        ∙ rw some refl

-- and its holder is the first live request with it
pub holder_position : (f : Holders) (g : Queues) (count id : ℕ) → IsTable f g count
    → position (has_id id) (requests_of f g count) ≡ option_map (λ h. h.number) (f id)
holder_position f g count id table = position_is (has_id id) (requests_of f g count) ∙ holder-case (f id) refl
  where
    holder-case : (o : Option Holder) → f id ≡ o
        → position_from (has_id id) 0 (requests_of f g count) ≡ option_map (λ h. h.number) (f id)
    holder-case None none = no_position (request_at f g) (has_id id) 0 count
        (λ n. lives_where_held f g count id n table ∙ rw none refl) ∙ rw none refl
    holder-case (Some holder) some =
        one_position (request_at f g) (has_id id) holder.number 0 count (omega arith)
        (omega (arith, (table.held id holder some).0))
        (λ n. lives_where_held f g count id n table ∙ rw some refl) ∙ rw some refl

-- ---- what stands at a number

pub length_table : (f : Holders) (g : Queues) (count : ℕ) → length (requests_of f g count) ≡ count
length_table f g count = length-map-range_with_len (request_at f g) 0 count

pub get-case : (f : Holders) (g : Queues) (count n : ℕ) → IsTable f g count → (n < count) ⊎ (count ≤ n)
    → life_of (slice_get (requests_of f g count) n) ≡ (request_at f g n).life
get-case f g count n table (inl below) = rw (get-range (request_at f g) n 0 count below, zero-add n) refl
get-case f g count n table (inr above) =
    rw (slice_get_past (requests_of f g count) n (omega (arith, length_table f g count, above)), table.known n above) refl

pub life_in_table : (f : Holders) (g : Queues) (count n : ℕ) → IsTable f g count
    → life_of (slice_get (requests_of f g count) n) ≡ (request_at f g n).life
life_in_table f g count n table = get-case f g count n table (cases_lt n count)

pub items-case : (f : Holders) (g : Queues) (count n : ℕ) → IsTable f g count → (n < count) ⊎ (count ≤ n)
    → waiting_of (slice_get (requests_of f g count) n) ≡ (request_at f g n).waiting
items-case f g count n table (inl below) = rw (get-range (request_at f g) n 0 count below, zero-add n) refl
items-case f g count n table (inr above) =
    rw (slice_get_past (requests_of f g count) n (omega (arith, length_table f g count, above)), table.known n above) refl

pub waiting_in_table : (f : Holders) (g : Queues) (count n : ℕ) → IsTable f g count
    → waiting_of (slice_get (requests_of f g count) n) ≡ (request_at f g n).waiting
waiting_in_table f g count n table = items-case f g count n table (cases_lt n count)
