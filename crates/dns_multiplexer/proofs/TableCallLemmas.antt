-- Requests in two maps: what is answered, what is cancelled or forgotten, and what is left where memory ran out.
use Rattle.std.proofs.Common.{[], inl, inr, zero-add, ◌≡◌, ℕ, ◌+◌, ◌<◌, ◌≤◌, Bool, true, false, cond, List, ◌∷◌, drop, length, Option, None, Some, refl, sym, ap, ◌∙◌, arith, slice_get, if◌then◌else◌, ◌⊎◌}
use Rattle.std.specs.Prelude.{◌==◌, is_some, nat_lt}
use Rattle.std.specs.List.{position}
use Rattle.std.specs.Option.{option_map}
use Rattle.std.proofs.lemmas.Bool.{eqb-true, eq-eqb, ne_eqb, cond-true, cond-false, cases_eq, cases_lt, both_ways}
use Rattle.std.proofs.lemmas.Option.{slice_get_past}
use Rattle.std.proofs.lemmas.Map.Entries.{lookup-filter-values, option_filter}
use Rattle.std.proofs.lemmas.Map.Keys.{IsDistinct-from_sorted}
use Rattle.std.specs.Map.{lookup, keys_of}
use Rattle.std.specs.List.{filter}
use Rattle.std.specs.Ordering.{nat_cmp}
use Rattle.std.specs.Cmp.{eq_by_cmp_equiv, nat_cmp_total}
use Rattle.std.specs.BTreeMap as tree
use Rattle.std.specs.BTreeMap.{BTreeMap}
use Rattle.dns_handle.specs.Errors.{Reply}
use Rattle.dns_multiplexer.specs.declared.request_table.Holder.{Holder}
use Rattle.dns_multiplexer.specs.Machine.{Life, Request, has_room, has_id, waiting_of, taken_from, first_or_end, reply_at}
use Rattle.dns_multiplexer.specs.declared.arrival.Arrival.TheVariants.{Stranger, Full, Queued}
use Rattle.dns_multiplexer.specs.Events.{TakenValue, Item}
use Rattle.dns_multiplexer.specs.Runs.{life_of}
use Rattle.dns_multiplexer.specs.Tables.{ItemQueueValue, life_under, request_in, request_at, requests_of, id_of_queue, IsTable, QueueChanged, takes_item, first_item, without_item, IsUnadded, still_held}
use Rattle.dns_multiplexer.proofs.ListLemmas.{map-range, get-range}
use Rattle.dns_multiplexer.proofs.TableLemmas.{Holders, Queues, table_changed, none-id, none-holder, some-id, holder_position, length_table, waiting_in_table}
use Rattle.dns_multiplexer.proofs.TableEndLemmas.{cancelled_is_table}
use Rattle.dns_multiplexer.proofs.LiveCountLemmas.{same_id, same_id_is}

-- ---- nothing was added

pub unadded-case : (g h : Queues) (number n : ℕ) → g number ≡ None → (h number ≡ g number) ⊎ (h number ≡ None)
    → (d : (number ≡ n) ⊎ (number ≡ n → ⊥))
    → h n ≡ (if number == n then h n else g n) → h n ≡ g n
unadded-case g h number n empty (inl same) (inl here) is = ap h (sym here) ∙ same ∙ ap g here
unadded-case g h number n empty (inr none) (inl here) is = ap h (sym here) ∙ none ∙ sym empty ∙ ap g here
unadded-case g h number n empty gone (inr other) is = is ∙ cond-false (number == n) (h n) (g n) (ne_eqb number n other)

pub unadded_queue : (f new_f : Holders) (g new_g : Queues) (count n : ℕ) → IsTable f g count
    → IsUnadded f g count new_f new_g → new_g n ≡ g n
unadded_queue f new_f g new_g count n table unadded = unadded-case g new_g count n
    (table.known count (omega arith)) unadded.gone (cases_eq count n) (unadded.queued n)

pub unadded_is_table : (f new_f : Holders) (g new_g : Queues) (count : ℕ) → IsTable f g count
    → IsUnadded f g count new_f new_g → IsTable new_f new_g count
unadded_is_table f new_f g new_g count table unadded = record {
  held = λ id holder is.
      let was = table.held id holder (sym (unadded.held id) ∙ is) in
      (was.0, ap id_of_queue (unadded_queue f new_f g new_g count holder.number table unadded) ∙ was.1);
  known = λ n above. unadded_queue f new_f g new_g count n table unadded ∙ table.known n above;
}

pub same-request : (f new_f : Holders) (n : ℕ) → ((id : ℕ) → new_f id ≡ f id) → (q : Option ItemQueueValue)
    → request_in new_f n q ≡ request_in f n q
same-request f new_f n held None = refl
same-request f new_f n held (Some q) = rw (held q.id) refl

pub unadded_table : (f new_f : Holders) (g new_g : Queues) (count : ℕ) → IsTable f g count
    → IsUnadded f g count new_f new_g → requests_of new_f new_g count ≡ requests_of f g count
unadded_table f new_f g new_g count table unadded =
    map-range (request_at new_f new_g) (request_at f g) 0 count
    (λ n low high. ap (request_in new_f n) (unadded_queue f new_f g new_g count n table unadded)
    ∙ same-request f new_f n unadded.held (g n))

-- ---- maps

-- a removed number
pub removed_at : {X : Type 0} (m n : BTreeMap ℕ X) (k : ℕ) → tree.Updates nat_cmp m n k None → (q : ℕ)
    → tree.get nat_cmp n q ≡ (if k == q then None else tree.get nat_cmp m q)
removed_at m n k updates q = updates.0 q ∙ ap (λ b. cond b None (tree.get nat_cmp m q)) (same_id_is k q)

-- the holders that are left by a test
pub retained : (m n : BTreeMap ℕ Holder) (p : Holder → Bool) → tree.IsOrdered nat_cmp m
    → n.entries ≡ filter (λ e. p e.1) m.entries
    → (q : ℕ) → tree.get nat_cmp n q ≡ option_filter p (tree.get nat_cmp m q)
retained m n p ordered is q =
    ap (lookup (same_id q)) is
    ∙ lookup-filter-values (eq_by_cmp_equiv nat_cmp_total) p q m.entries
    (IsDistinct-from_sorted nat_cmp (keys_of m.entries) ordered)

pub filtered_still : (timeout now : ℕ) (h : Option Holder)
    → option_filter (λ holder. nat_lt now (holder.moment + timeout)) h ≡ still_held timeout now h
filtered_still timeout now None = refl
filtered_still timeout now (Some holder) = refl

-- ---- a request that is cancelled or forgotten

-- whoever holds an id isn't a request that is over
pub dead-case : (f : Holders) (number i : ℕ) (holder : Holder) (q : Option ItemQueueValue) → id_of_queue q ≡ Some i
    → f i ≡ Some holder → holder.number ≡ number
    → is_some (request_in f number q).life ≡ false → ⊥
dead-case f number i holder None known is same dead = none-id i known
dead-case f number i holder (Some q) known is same dead =
    both_ways _ dead (rw (some-id q.id i known, is, eq-eqb holder.number number same) refl)

pub away_dead : (f : Holders) (g : Queues) (count number : ℕ) → IsTable f g count
    → is_some (request_at f g number).life ≡ false
    → (i : ℕ) (holder : Holder) → f i ≡ Some holder → number ≡ holder.number → ⊥
away_dead f g count number table dead i holder is same =
    dead-case f number i holder (g number) (ap (λ n. id_of_queue (g n)) same ∙ (table.held i holder is).1) is
    (sym same) dead

pub number-case : (n number : ℕ) (life : Life) (b : Bool) → (n == number) ≡ b
    → is_some (if b then Some life else None) ≡ true → n ≡ number
number-case n number life true same lives = eqb-true n number same
number-case n number life false other lives = cc

pub held-when : (f : Holders) (id number : ℕ) (holder : Holder) → f id ≡ Some holder
    → is_some (life_under id number (f id)) ≡ true → holder.number ≡ number
held-when f id number holder is lives = number-case holder.number number
    (record { id = id; moment = holder.moment }) _ refl (rw is at lives)

pub cancel-case : (f new_f : Holders) (id number i : ℕ) → is_some (life_under id number (f id)) ≡ true
    → new_f i ≡ (if id == i then None else f i) → (d : (id ≡ i) ⊎ (id ≡ i → ⊥))
    → (new_f i ≡ f i) ⊎ ((new_f i ≡ None) × ((holder : Holder) → f i ≡ Some holder → holder.number ≡ number))
cancel-case f new_f id number i lives held (inl same) =
    inr (held ∙ cond-true (id == i) None (f i) (eq-eqb id i same), λ holder is. held-when f id number holder (ap f same ∙ is) lives)
cancel-case f new_f id number i lives held (inr apart) = inl
    (held ∙ cond-false (id == i) None (f i) (ne_eqb id i apart))

pub cancel_held : (f new_f : Holders) (id number : ℕ) → is_some (life_under id number (f id)) ≡ true
    → ((i : ℕ) → new_f i ≡ (if id == i then None else f i))
    → (i : ℕ) → (new_f i ≡ f i) ⊎ ((new_f i ≡ None) × ((holder : Holder) → f i ≡ Some holder → holder.number ≡ number))
cancel_held f new_f id number lives held i = cancel-case f new_f id number i lives (held i) (cases_eq id i)

pub away-case : (f new_f : Holders) (g : Queues) (count id number i : ℕ) (holder : Holder) → IsTable f g count
    → id_of_queue (g number) ≡ Some id
    → new_f i ≡ (if id == i then None else f i) → new_f i ≡ Some holder → number ≡ holder.number
    → (d : (id ≡ i) ⊎ (id ≡ i → ⊥)) → ⊥
away-case f new_f g count id number i holder table known held is same (inl here) = none-holder holder
    (sym (held ∙ cond-true (id == i) None (f i) (eq-eqb id i here)) ∙ is)
away-case f new_f g count id number i holder table known held is same (inr apart) =
    let was : f i ≡ Some holder = sym (held ∙ cond-false (id == i) None (f i) (ne_eqb id i apart)) ∙ is in
    apart (some-id id i (sym known ∙ ap (λ n. id_of_queue (g n)) same ∙ (table.held i holder was).1))

pub away_cancelled : (f new_f : Holders) (g : Queues) (count id number : ℕ) → IsTable f g count
    → id_of_queue (g number) ≡ Some id
    → ((i : ℕ) → new_f i ≡ (if id == i then None else f i)) → (i : ℕ) (holder : Holder) → new_f i ≡ Some holder
    → number ≡ holder.number → ⊥
away_cancelled f new_f g count id number table known held i holder is same = away-case f new_f g count id number
    i holder table known (held i) is same (cases_eq id i)

-- ---- what a take gives

abbrev pub given_by : Request → TakenValue
given_by request = first_or_end (is_some request.life) request.waiting

pub taken-case : (f : Holders) (g : Queues) (count n : ℕ) → IsTable f g count → (n < count) ⊎ (count ≤ n)
    → taken_from (slice_get (requests_of f g count) n) ≡ given_by (request_at f g n)
taken-case f g count n table (inl below) = rw (get-range (request_at f g) n 0 count below, zero-add n) refl
taken-case f g count n table (inr above) = rw
    (slice_get_past (requests_of f g count) n (omega (arith, length_table f g count, above)), table.known n above) refl

pub taken_in_table : (f : Holders) (g : Queues) (count n : ℕ) → IsTable f g count
    → taken_from (slice_get (requests_of f g count) n) ≡ given_by (request_at f g n)
taken_in_table f g count n table = taken-case f g count n table (cases_lt n count)

pub first-case : (b : Bool) (items : List Reply) (x : Reply) → Some x ≡ slice_get items 0 → Item x ≡ first_or_end b items
first-case true [] x is = cc
first-case false [] x is = cc
first-case b (y ∷ ys) x is = cc

pub first-item : (f : Holders) (n : ℕ) (q : Option ItemQueueValue) (x : Reply) → Some x ≡ first_item q
    → Item x ≡ given_by (request_in f n q)
first-item f n None x is = cc
first-item f n (Some q) x is = first-case (is_some (life_under q.id n (f q.id))) q.items x is

pub takes_first : (f : Holders) (g : Queues) (count n : ℕ) (x : Reply) → IsTable f g count
    → Some x ≡ first_item (g n) → Item x ≡ taken_from (slice_get (requests_of f g count) n)
takes_first f g count n x table is = first-item f n (g n) x is ∙ sym (taken_in_table f g count n table)

pub no-items : (items : List Reply) → None ≡ slice_get items 0 → items ≡ []
no-items [] is = refl
no-items (y ∷ ys) is = cc

pub nothing-waits : (f : Holders) (n : ℕ) (q : Option ItemQueueValue) → None ≡ first_item q
    → (request_in f n q).waiting ≡ []
nothing-waits f n None is = refl
nothing-waits f n (Some q) is = no-items q.items is

-- nothing waits for a request whose first item was asked for in vain
pub nothing-left : (f : Holders) (n : ℕ) (q : Option ItemQueueValue) → None ≡ first_item q
    → (request_in f n (option_map without_item q)).waiting ≡ []
nothing-left f n None is = refl
nothing-left f n (Some q) is = ap (drop 1) (no-items q.items is)

pub left-case : (f : Holders) (n : ℕ) (q : Option ItemQueueValue) → None ≡ first_item q
    → given_by (request_in f n (option_map without_item q)) ≡ given_by (request_in f n q)
left-case f n None is = refl
left-case f n (Some q) is =
    ap (first_or_end (is_some (life_under q.id n (f q.id))))
    (ap (drop 1) (no-items q.items is) ∙ sym (no-items q.items is))

module _ (f : Holders) (g h : Queues) (count n : ℕ) (table : IsTable f g count)
    (changed : QueueChanged g h n without_item) (none : None ≡ first_item (g n)) where
  left-queue : h n ≡ option_map without_item (g n)
  left-queue = changed n ∙ cond-true (n == n) (option_map without_item (g n)) (g n) (eq-eqb n n refl)

  left-table : IsTable f h count
  left-table = table_changed f g h count n without_item (λ q. refl) changed table

  pub nothing_left : waiting_of (slice_get (requests_of f h count) n) ≡ []
  nothing_left = waiting_in_table f h count n left-table ∙ ap (λ q. (request_in f n q).waiting) left-queue
      ∙ nothing-left f n (g n) none

  pub left_told : taken_from (slice_get (requests_of f h count) n) ≡ taken_from (slice_get (requests_of f g count) n)
  left_told = taken_in_table f h count n left-table ∙ ap (λ q. given_by (request_in f n q)) left-queue
      ∙ left-case f n (g n) none ∙ sym (taken_in_table f g count n table)

-- a request for which nothing waits
pub ends_as : (request : Option Request) (b : Bool) → is_some (life_of request) ≡ b → waiting_of request ≡ []
    → first_or_end b [] ≡ taken_from request
ends_as None true lives none = cc
ends_as None false lives none = refl
ends_as (Some request) b lives none = rw (lives, none) refl

-- one that is over is forgotten
pub life-none : (life : Option Life) → is_some life ≡ false → life ≡ None
life-none None dead = refl
life-none (Some life) dead = cc

pub over-parts : (request : Request) (life : Option Life) (waiting : List Reply)
    → request.life ≡ life → request.waiting ≡ waiting → record { life = life; waiting = waiting } ≡ request
over-parts request life waiting first second =
    ap (λ l. record { life = l; waiting = waiting }) (sym first)
    ∙ ap (λ w. record { life = request.life; waiting = w }) (sym second)

pub forgotten_table : (f : Holders) (g new_g : Queues) (count number : ℕ) → IsTable f g count
    → ((n : ℕ) → new_g n ≡ (if number == n then None else g n))
    → is_some (request_at f g number).life ≡ false → (request_at f g number).waiting ≡ []
    → requests_of f new_g count ≡ requests_of f g count
forgotten_table f g new_g count number table gone dead none =
    map-range (request_at f new_g) (request_at f g) 0 count
    (λ n low high. ap (request_in f n) (gone n) ∙ at-place n (number == n) refl)
  where
    at-place : (n : ℕ) (b : Bool) → (number == n) ≡ b
        → request_in f n (if b then None else g n) ≡ request_at f g n
    at-place n true same =
        let here : number ≡ n = eqb-true number n same in
        over-parts (request_at f g n) None []
        (life-none (request_at f g n).life (ap (λ m. is_some (request_at f g m).life) (sym here) ∙ dead))
        (ap (λ m. (request_at f g m).waiting) (sym here) ∙ none)
    at-place n false other = refl

pub forgotten_is_table : (f : Holders) (g new_g : Queues) (count number : ℕ) → IsTable f g count
    → ((n : ℕ) → new_g n ≡ (if number == n then None else g n))
    → is_some (request_at f g number).life ≡ false → IsTable f new_g count
forgotten_is_table f g new_g count number table gone dead =
    cancelled_is_table f f g new_g count number (λ i. inl refl) (away_dead f g count number table dead) gone table

-- ---- what a queue has room for

pub room-of : (q : Option ItemQueueValue) (f : Holders) (n id : ℕ) → id_of_queue q ≡ Some id
    → has_room (request_in f n q).waiting ≡ takes_item q
room-of None f n id known = cc
room-of (Some q) f n id known = refl

pub room_in_table : (f : Holders) (g : Queues) (count id : ℕ) (holder : Holder) → IsTable f g count → f id ≡ Some holder
    → has_room (waiting_of (slice_get (requests_of f g count) holder.number)) ≡ takes_item (g holder.number)
room_in_table f g count id holder table is =
    ap has_room (waiting_in_table f g count holder.number table)
    ∙ room-of (g holder.number) f holder.number id (table.held id holder is).1

-- how an arrival is answered
pub stranger_told : (f : Holders) (g : Queues) (count id : ℕ) → IsTable f g count → f id ≡ None
    → Stranger ≡ reply_at (requests_of f g count) (position (has_id id) (requests_of f g count))
stranger_told f g count id table none = sym
    (ap (reply_at (requests_of f g count)) (holder_position f g count id table ∙ ap (option_map (λ h. h.number)) none))

pub held-told : (rs : List Request) (number : ℕ) (b : Bool) → has_room (waiting_of (slice_get rs number)) ≡ b
    → reply_at rs (Some number) ≡ (if b then Queued (record { 0 = number }) else Full)
held-told rs number b room = rw room refl

pub arrival_told : (f : Holders) (g : Queues) (count id : ℕ) (holder : Holder) (b : Bool) → IsTable f g count
    → f id ≡ Some holder → takes_item (g holder.number) ≡ b
    → (if b then Queued (record { 0 = holder.number }) else Full) ≡ reply_at (requests_of f g count)
    (position (has_id id) (requests_of f g count))
arrival_told f g count id holder b table is takes =
    sym (ap (reply_at (requests_of f g count)) (holder_position f g count id table ∙ ap (option_map (λ h. h.number)) is)
    ∙ held-told (requests_of f g count) holder.number b (room_in_table f g count id holder table is ∙ takes))

-- an empty map has nothing
pub none-in : (es : List (ℕ × Holder)) → (0 < length es → ⊥) → (q : ℕ) → lookup (same_id q) es ≡ None
none-in [] empty q = refl
none-in (e ∷ es) empty q = absurd (empty (omega arith))

pub nothing_in : (m : BTreeMap ℕ Holder) → (0 < tree.btree_map_len m → ⊥) → (q : ℕ) → tree.get nat_cmp m q ≡ None
nothing_in m empty q = none-in m.entries empty q
