-- Requests in two maps: one more comes, one ends, those end that are too old, and all end.
use Rattle.std.proofs.Common.{[], inl, inr, zero, suc, zero-add, ◌≡◌, ℕ, ◌+◌, ◌<◌, List, Bool, true, false, cond, ◌∷◌, ◌++◌, map, Option, None, Some, refl, sym, ap, ◌∙◌, arith, if◌then◌else◌, ◌⊎◌}
use Rattle.std.specs.Prelude.{◌==◌, is_some, nat_lt}
use Rattle.std.specs.List.{range_with_len}
use Rattle.std.specs.Option.{option_map}
use Rattle.std.proofs.lemmas.Bool.{eqb-false, eq-eqb, ne_eqb, cond-true, cond-false, cases_eq}
use Rattle.std.proofs.lemmas.List.FromFn.{map-range_with_len_more}
use Rattle.dns_handle.specs.declared.io_kind.IoKind.{IoKind}
use Rattle.dns_multiplexer.specs.declared.request_table.Holder.{Holder}
use Rattle.dns_multiplexer.specs.Messages.{failed_by}
use Rattle.dns_multiplexer.specs.Brought.{closed_by, brought_by_close}
use Rattle.dns_multiplexer.specs.Machine.{Request, has_room, changed_at, cancelled, ticked, still_living, closed, sent_under, is_taken_id}
use Rattle.dns_multiplexer.specs.Tables.{ItemQueueValue, life_under, request_in, request_at, requests_of, events_in, id_of_queue, IsTable, QueueChanged, pushed, IsAdded, FailsAll, still_held}
use Rattle.dns_multiplexer.proofs.ListLemmas.{map-range, changed-map, all_changed, alike_changed}
use Rattle.dns_multiplexer.proofs.TableLemmas.{Holders, Queues, table_changed, pushed_id, none-holder, some-id, taken_id}

-- ---- a request ends

pub without-life : (f new_f : Holders) (id n number : ℕ) → (number ≡ n → ⊥)
    → ((new_f id ≡ f id) ⊎ ((new_f id ≡ None) × ((holder : Holder) → f id ≡ Some holder → holder.number ≡ number)))
    → (h : Option Holder) → f id ≡ h → life_under id n (new_f id) ≡ life_under id n (f id)
without-life f new_f id n number apart (inl same) h is = ap (life_under id n) same
without-life f new_f id n number apart (inr gone) None is = ap (life_under id n) (gone.0 ∙ sym is)
without-life f new_f id n number apart (inr gone) (Some holder) is =
    rw (gone.0, is, ne_eqb holder.number n (λ same. apart (sym (gone.1 holder is) ∙ same))) refl

pub without-request : (f new_f : Holders) (number n : ℕ) → (number ≡ n → ⊥)
    → ((i : ℕ) → (new_f i ≡ f i) ⊎ ((new_f i ≡ None) × ((holder : Holder) → f i ≡ Some holder → holder.number ≡ number)))
    → (q : Option ItemQueueValue) → request_in new_f n q ≡ request_in f n q
without-request f new_f number n apart held None = refl
without-request f new_f number n apart held (Some q) = rw
    (without-life f new_f q.id n number apart (held q.id) (f q.id) refl) refl

-- what a cancel leaves of the list
pub cancelled_table : (f new_f : Holders) (g new_g : Queues) (count number : ℕ)
    → ((i : ℕ) → (new_f i ≡ f i) ⊎ ((new_f i ≡ None) × ((holder : Holder) → f i ≡ Some holder → holder.number ≡ number)))
    → ((n : ℕ) → new_g n ≡ (if number == n then None else g n))
    → requests_of new_f new_g count ≡ changed_at number cancelled (requests_of f g count)
cancelled_table f new_f g new_g count number held queued =
    changed-map (request_at f g) (request_at new_f new_g) cancelled number count
    (λ n below. ap (request_in new_f n) (queued n) ∙ at-number n (number == n) refl)
  where
    at-number : (n : ℕ) (b : Bool) → (number == n) ≡ b
        → request_in new_f n (if b then None else g n) ≡ cond b (cancelled (request_at f g n)) (request_at f g n)
    at-number n true same = refl
    at-number n false other = without-request f new_f number n (eqb-false number n other) held (g n)

pub still-there : (f new_f : Holders) (number id : ℕ) (holder : Holder)
    → ((new_f id ≡ f id) ⊎ ((new_f id ≡ None) × ((holder : Holder) → f id ≡ Some holder → holder.number ≡ number)))
    → new_f id ≡ Some holder → f id ≡ Some holder
still-there f new_f number id holder (inl same) is = sym same ∙ is
still-there f new_f number id holder (inr gone) is = absurd (no-holder holder (sym gone.0 ∙ is))
  where
    no-holder : (h : Holder) → None ≡ Some h → ⊥
    no-holder h is = cc

abbrev pub no_queue : Option ItemQueueValue
no_queue = None

pub both-none : (b : Bool) → (if b then no_queue else no_queue) ≡ no_queue
both-none true = refl
both-none false = refl

-- and it is a table still, where no other request than the one that holds an id is the cancelled one
pub cancelled_is_table : (f new_f : Holders) (g new_g : Queues) (count number : ℕ)
    → ((i : ℕ) → (new_f i ≡ f i) ⊎ ((new_f i ≡ None) × ((holder : Holder) → f i ≡ Some holder → holder.number ≡ number)))
    → ((i : ℕ) (holder : Holder) → new_f i ≡ Some holder → number ≡ holder.number → ⊥)
    → ((n : ℕ) → new_g n ≡ (if number == n then None else g n)) → IsTable f g count → IsTable new_f new_g count
cancelled_is_table f new_f g new_g count number held away queued table = record {
  held = λ id holder is.
      let was = still-there f new_f number id holder (held id) is in (
        (table.held id holder was).0,
        ap id_of_queue (queued holder.number
            ∙ cond-false (number == holder.number) None (g holder.number) (ne_eqb number holder.number (away id holder is)))
            ∙ (table.held id holder was).1,
      );
  known = λ n above. queued n ∙ ap (λ q. if number == n then None else q) (table.known n above)
      ∙ both-none (number == n);
}

-- ---- the requests that are too old end

pub tick-case : (t now id n : ℕ) (h : Holder) (b : Bool) → (h.number == n) ≡ b → (c : Bool) → nat_lt now (h.moment + t) ≡ c
    → life_under id n (if c then Some h else None) ≡ still_living t now
    (if b then Some (record { id = id; moment = h.moment }) else None)
tick-case t now id n h true here true young = rw (here, young) refl
tick-case t now id n h true here false old = rw old refl
tick-case t now id n h false other true young = rw other refl
tick-case t now id n h false other false old = refl

pub tick-life : (t now id n : ℕ) (h : Option Holder)
    → life_under id n (still_held t now h) ≡ still_living t now (life_under id n h)
tick-life t now id n None = refl
tick-life t now id n (Some h) = tick-case t now id n h (h.number == n) refl (nat_lt now (h.moment + t)) refl

pub tick-request : (f new_f : Holders) (t now n : ℕ) → ((id : ℕ) → new_f id ≡ still_held t now (f id))
    → (q : Option ItemQueueValue) → request_in new_f n q ≡ ticked t now (request_in f n q)
tick-request f new_f t now n held None = refl
tick-request f new_f t now n held (Some q) = rw (held q.id, tick-life t now q.id n (f q.id)) refl

pub ticked_table : (f new_f : Holders) (g : Queues) (count t now : ℕ)
    → ((id : ℕ) → new_f id ≡ still_held t now (f id))
    → requests_of new_f g count ≡ map (ticked t now) (requests_of f g count)
ticked_table f new_f g count t now held = all_changed (request_at f g) (request_at new_f g) (ticked t now) count
    (λ n. tick-request f new_f t now n held (g n))

pub held-still : (t now : ℕ) (h : Option Holder) (holder : Holder) → still_held t now h ≡ Some holder → h ≡ Some holder
held-still t now None holder is = is
held-still t now (Some h) holder is = held-case (nat_lt now (h.moment + t)) is
  where
    held-case : (b : Bool) → (if b then Some h else None) ≡ Some holder → Some h ≡ Some holder
    held-case true is = is
    held-case false is = cc

pub ticked_is_table : (f new_f : Holders) (g : Queues) (count t now : ℕ)
    → ((id : ℕ) → new_f id ≡ still_held t now (f id)) → IsTable f g count → IsTable new_f g count
ticked_is_table f new_f g count t now held table = record {
  held = λ id holder is. table.held id holder (held-still t now (f id) holder (sym (held id) ∙ is));
  known = table.known;
}

-- ---- one request more

pub added_table : (f new_f : Holders) (g new_g : Queues) (count id : ℕ) (holder : Holder) → IsTable f g count
    → is_taken_id (requests_of f g count) id ≡ false → holder.number ≡ count
    → IsAdded f g id holder new_f new_g
    → requests_of new_f new_g (count + 1) ≡ requests_of f g count ++ sent_under id holder.moment ∷ []
added_table f new_f g new_g count id holder table free number added =
    map-range_with_len_more (request_at new_f new_g) 0 count count (zero-add count)
    ∙ rw (map-range (request_at new_f new_g) (request_at f g) 0 count (λ n low high. others n (omega (arith, high))), newest) refl
  where
    unheld : f id ≡ None
    unheld = none-case (f id) (sym (taken_id f g count id table) ∙ free)
      where
        none-case : (h : Option Holder) → is_some h ≡ false → h ≡ None
        none-case None nay = refl
        none-case (Some h) nay = cc

    life-same : (i n : ℕ) → (n < count) → (d : (id ≡ i) ⊎ (id ≡ i → ⊥))
        → life_under i n (new_f i) ≡ life_under i n (f i)
    life-same i n below (inl same) =
        rw (sym same, added.held id, eq-eqb id id refl, unheld, ne_eqb holder.number n (λ h. omega (arith, below, number, h))) refl
    life-same i n below (inr apart) = ap (life_under i n)
        (added.held i ∙ cond-false (id == i) (Some holder) (f i) (ne_eqb id i apart))

    same-request : (n : ℕ) → n < count → (q : Option ItemQueueValue) → request_in new_f n q ≡ request_in f n q
    same-request n below None = refl
    same-request n below (Some q) = rw (life-same q.id n below (cases_eq id q.id)) refl

    others : (n : ℕ) → n < count → request_at new_f new_g n ≡ request_at f g n
    others n below =
        ap (request_in new_f n)
        (added.queued n ∙ cond-false (holder.number == n) _ (g n) (ne_eqb holder.number n (λ h. omega (arith, below, number, h))))
        ∙ same-request n below (g n)

    newest : request_at new_f new_g count ≡ sent_under id holder.moment
    newest = rw (
      added.queued count,
      eq-eqb holder.number count number,
      added.held id,
      eq-eqb id id refl,
      eq-eqb holder.number count number,
    ) refl

pub added_is_table : (f new_f : Holders) (g new_g : Queues) (count id : ℕ) (holder : Holder)
    → IsTable f g count → holder.number ≡ count
    → IsAdded f g id holder new_f new_g → IsTable new_f new_g (count + 1)
added_is_table f new_f g new_g count id holder table number added = record {
  held = λ i h is. held-case i h (cases_eq id i) is;
  known = λ n above. added.queued n
      ∙ cond-false (holder.number == n) _ (g n) (ne_eqb holder.number n (λ h. omega (arith, above, number, h)))
      ∙ table.known n (omega (arith, above));
}
  where
    holder-inj : (a b : Holder) → Some a ≡ Some b → a ≡ b
    holder-inj a b h = cc

    held-case : (i : ℕ) (h : Holder) (d : (id ≡ i) ⊎ (id ≡ i → ⊥)) → new_f i ≡ Some h
        → (h.number < count + 1) × (id_of_queue (new_g h.number) ≡ Some i)
    held-case i h (inl same) is =
        let it : holder ≡ h = holder-inj holder h
        (sym (added.held i ∙ cond-true (id == i) (Some holder) (f i) (eq-eqb id i same)) ∙ is) in
        let at : h.number ≡ count = sym (ap (λ x. x.number) it) ∙ number in (
          omega (arith, at),
          ap id_of_queue (added.queued h.number
              ∙ cond-true (holder.number == h.number) _ (g h.number) (eq-eqb holder.number h.number (ap (λ x. x.number) it)))
              ∙ ap Some same,
        )
    held-case i h (inr apart) is =
        let was : f i ≡ Some h = sym
        (added.held i ∙ cond-false (id == i) (Some holder) (f i) (ne_eqb id i apart)) ∙ is in
        let old = table.held i h was in (
          omega (arith, old.0),
          ap id_of_queue (added.queued h.number
              ∙ cond-false (holder.number == h.number) _ (g h.number)
              (ne_eqb holder.number h.number (λ e. omega (arith, old.0, number, e)))) ∙ old.1,
        )

-- ---- all requests end

-- the first holder is taken away, and its request gets the fault
module _ (fault : IoKind) (event : ℕ) (f new_f : Holders) (g new_g : Queues) (id : ℕ) (holder : Holder) (is : f id ≡ Some holder)
    (held : (i : ℕ) → new_f i ≡ (if id == i then None else f i))
    (pushes : QueueChanged g new_g holder.number (pushed (failed_by fault) event)) where
  -- lives of other requests under other ids stay
  pub fail-life : (i n : ℕ) → (holder.number ≡ n → ⊥) → (d : (id ≡ i) ⊎ (id ≡ i → ⊥))
      → life_under i n (new_f i) ≡ life_under i n (f i)
  fail-life i n apart (inl same) = rw (sym same, held id, eq-eqb id id refl, is, ne_eqb holder.number n apart) refl
  fail-life i n apart (inr other) = ap (life_under i n) (held i ∙ cond-false (id == i) None (f i) (ne_eqb id i other))

  pub fail-other : (n : ℕ) → (holder.number ≡ n → ⊥) → (q : Option ItemQueueValue) → request_in new_f n q ≡ request_in f n q
  fail-other n apart None = refl
  fail-other n apart (Some q) = rw (fail-life q.id n apart (cases_eq id q.id)) refl

  pub here-case : (n : ℕ) → holder.number ≡ n → (q : ItemQueueValue) → q.id ≡ id → (b : Bool) → has_room q.items ≡ b
      → closed fault (request_in new_f n (Some (pushed (failed_by fault) event q))) ≡ closed fault (request_in f n (Some q))
  here-case n same q own true room = rw
      (room, own, held id, eq-eqb id id refl, is, eq-eqb holder.number n same, room) refl
  here-case n same q own false full = rw
      (full, own, held id, eq-eqb id id refl, is, eq-eqb holder.number n same, full) refl

  pub fail-here : (n : ℕ) → holder.number ≡ n → (q : Option ItemQueueValue) → id_of_queue q ≡ Some id
      → closed fault (request_in new_f n (option_map (pushed (failed_by fault) event) q)) ≡ closed fault (request_in f n q)
  fail-here n same None known = cc
  fail-here n same (Some q) known = here-case n same q (some-id q.id id known) _ refl

  pub fail-request : (count n : ℕ) → IsTable f g count → (d : (holder.number ≡ n) ⊎ (holder.number ≡ n → ⊥))
      → closed fault (request_at new_f new_g n) ≡ closed fault (request_at f g n)
  fail-request count n table (inl same) =
      ap (λ q. closed fault (request_in new_f n q))
      (pushes n ∙ cond-true (holder.number == n) (option_map (pushed (failed_by fault) event) (g n)) (g n) (eq-eqb holder.number n same))
      ∙ fail-here n same (g n) (ap (λ m. id_of_queue (g m)) (sym same) ∙ (table.held id holder is).1)
  fail-request count n table (inr apart) =
      ap (λ q. closed fault (request_in new_f n q))
      (pushes n ∙ cond-false (holder.number == n) (option_map (pushed (failed_by fault) event) (g n)) (g n) (ne_eqb holder.number n apart))
      ∙ ap (closed fault) (fail-other n apart (g n))

  pub fail-requests : (count : ℕ) → IsTable f g count
      → map (closed fault) (requests_of new_f new_g count) ≡ map (closed fault) (requests_of f g count)
  fail-requests count table = alike_changed (request_at new_f new_g) (request_at f g) (closed fault) count
      (λ n. fail-request count n table (cases_eq holder.number n))

  -- the events are what they will be once all have ended
  pub brought-case : (n : ℕ) → holder.number ≡ n → (q : ItemQueueValue) → q.id ≡ id → (b : Bool) → has_room q.items ≡ b
      → closed_by event (request_in new_f n (Some (pushed (failed_by fault) event q))) (events_in (Some (pushed (failed_by fault) event q)))
      ≡ closed_by event (request_in f n (Some q)) q.events
  brought-case n same q own true room = rw
      (room, own, held id, eq-eqb id id refl, is, eq-eqb holder.number n same) refl
  brought-case n same q own false full = rw
      (full, own, held id, eq-eqb id id refl, is, eq-eqb holder.number n same) refl

  pub brought-here : (n : ℕ) → holder.number ≡ n → (q : Option ItemQueueValue) → id_of_queue q ≡ Some id
      → closed_by event (request_in new_f n (option_map (pushed (failed_by fault) event) q))
      (events_in (option_map (pushed (failed_by fault) event) q))
      ≡ closed_by event (request_in f n q) (events_in q)
  brought-here n same None known = cc
  brought-here n same (Some q) known = brought-case n same q (some-id q.id id known) _ refl

  pub fail-brought : (count n : ℕ) → IsTable f g count → (d : (holder.number ≡ n) ⊎ (holder.number ≡ n → ⊥))
      → closed_by event (request_at new_f new_g n) (events_in (new_g n)) ≡ closed_by event (request_at f g n) (events_in (g n))
  fail-brought count n table (inl same) =
      ap (λ q. closed_by event (request_in new_f n q) (events_in q))
      (pushes n ∙ cond-true (holder.number == n) (option_map (pushed (failed_by fault) event) (g n)) (g n) (eq-eqb holder.number n same))
      ∙ brought-here n same (g n) (ap (λ m. id_of_queue (g m)) (sym same) ∙ (table.held id holder is).1)
  fail-brought count n table (inr apart) =
      ap (λ q. closed_by event (request_in new_f n q) (events_in q))
      (pushes n ∙ cond-false (holder.number == n) (option_map (pushed (failed_by fault) event) (g n)) (g n) (ne_eqb holder.number n apart))
      ∙ ap (λ r. closed_by event r (events_in (g n))) (fail-other n apart (g n))

  pub fail-held : (i : ℕ) (h : Holder) (d : (id ≡ i) ⊎ (id ≡ i → ⊥)) → new_f i ≡ Some h → f i ≡ Some h
  fail-held i h (inl same) has = absurd
      (none-holder h (sym (held i ∙ cond-true (id == i) None (f i) (eq-eqb id i same)) ∙ has))
  fail-held i h (inr other) has = sym (held i ∙ cond-false (id == i) None (f i) (ne_eqb id i other)) ∙ has

  pub fail-table : (count : ℕ) → IsTable f g count → IsTable new_f new_g count
  fail-table count table =
      let kept = table_changed f g new_g count holder.number (pushed (failed_by fault) event)
      (pushed_id (failed_by fault) event) pushes table in
      record { held = λ i h has. kept.held i h (fail-held i h (cases_eq id i) has); known = kept.known }

-- as far as it has come
pub record Failing (fault : IoKind) (event : ℕ) (f : Holders) (g : Queues) (new_f : Holders) (new_g : Queues) : Type 0 where
  pub table : (count : ℕ) → IsTable f g count → IsTable new_f new_g count
  pub alike : (count : ℕ) → IsTable f g count
      → map (closed fault) (requests_of new_f new_g count) ≡ map (closed fault) (requests_of f g count)
  pub brought : (count n : ℕ) → IsTable f g count
      → closed_by event (request_at new_f new_g n) (events_in (new_g n)) ≡ closed_by event (request_at f g n) (events_in (g n))

pub failing_none : (fault : IoKind) (event : ℕ) (f : Holders) (g : Queues) → Failing fault event f g f g
failing_none fault event f g = record { table = λ count table. table; alike = λ count table. refl; brought = λ count n table. refl }

pub failing_more : (fault : IoKind) (event : ℕ) (f : Holders) (g : Queues) (mid_f new_f : Holders) (mid_g new_g : Queues)
    (id : ℕ) (holder : Holder) → Failing fault event f g mid_f mid_g
    → mid_f id ≡ Some holder → ((i : ℕ) → new_f i ≡ (if id == i then None else mid_f i))
    → QueueChanged mid_g new_g holder.number (pushed (failed_by fault) event) → Failing fault event f g new_f new_g
failing_more fault event f g mid_f new_f mid_g new_g id holder failing is held pushes = record {
  table = λ count table. fail-table fault event mid_f new_f mid_g new_g id holder is held pushes count
      (failing.table count table);
  alike = λ count table. fail-requests fault event mid_f new_f mid_g new_g id holder is held pushes count
      (failing.table count table) ∙ failing.alike count table;
  brought = λ count n table. fail-brought fault event mid_f new_f mid_g new_g id holder is held pushes count n
      (failing.table count table) (cases_eq holder.number n) ∙ failing.brought count n table;
}

-- with no holder left, each request has ended
pub all-over : (fault : IoKind) (f : Holders) (n : ℕ) (q : Option ItemQueueValue) → ((i : ℕ) → f i ≡ None)
    → request_in f n q ≡ closed fault (request_in f n q)
all-over fault f n None none = refl
all-over fault f n (Some q) none = rw (none q.id) refl

pub brought-over : (event : ℕ) (f : Holders) (n : ℕ) (q : Option ItemQueueValue) → ((i : ℕ) → f i ≡ None)
    → events_in q ≡ closed_by event (request_in f n q) (events_in q)
brought-over event f n None none = refl
brought-over event f n (Some q) none = rw (none q.id) refl

pub closed-range : (event : ℕ) (F : ℕ → Request) (G : ℕ → List ℕ) (a c : ℕ)
    → brought_by_close event (map F (range_with_len a c)) (map G (range_with_len a c))
    ≡ map (λ n. closed_by event (F n) (G n)) (range_with_len a c)
unfolding brought_by_close
closed-range event F G a zero = refl
closed-range event F G a (suc c) = ap (λ rest. closed_by event (F a) (G a) ∷ rest) (closed-range event F G (a + 1) c)

pub failed_all : (fault : IoKind) (event : ℕ) (f : Holders) (g : Queues) (new_f : Holders) (new_g : Queues)
    → Failing fault event f g new_f new_g → ((i : ℕ) → new_f i ≡ None) → FailsAll fault event f g new_f new_g
failed_all fault event f g new_f new_g failing none = record {
  table = failing.table;
  closed = λ count table.
      all_changed (request_at new_f new_g) (request_at new_f new_g) (closed fault) count
      (λ n. all-over fault new_f n (new_g n) none) ∙ failing.alike count table;
  brought = λ count table.
      map-range (λ n. events_in (new_g n)) (λ n. closed_by event (request_at f g n) (events_in (g n))) 0 count
      (λ n low high. brought-over event new_f n (new_g n) none ∙ failing.brought count n table)
      ∙ sym (closed-range event (request_at f g) (λ n. events_in (g n)) 0 count);
}
