-- What a history says of one request, and what one event more changes in it.
use Rattle.dns_handle.specs.Errors.{Reply}
use Rattle.std.proofs.Common.{[], append-nil, drop-drop, add-zero, inl, inr, ◌≡◌, ℕ, ◌+◌, ◌≤◌, Bool, true, false, cond, List, ◌∷◌, ◌++◌, length, drop, Option, None, Some, refl, sym, ap, ◌∙◌, arith, slice_get, if◌then◌else◌, ◌⊎◌}
use Rattle.std.specs.Prelude.{◌||◌, ◌&&◌, not, count_by, is_some, nat_lt}
use Rattle.std.specs.List.{list_any}
use Rattle.std.specs.Option.{option_map}
use Rattle.std.proofs.lemmas.Bool.{cond-false, or_right, or_cases, eqb-true, eq-eqb}
use Rattle.std.proofs.lemmas.List.{drop-append-le}
use Rattle.std.proofs.lemmas.List.Sums.{sum_by-cons}
use Rattle.dns_multiplexer.specs.Messages.{SerialMessageValue}
use Rattle.dns_multiplexer.specs.Events.{Event, Send, Arrive, Take, Cancel, Tick, Close, Pop}
use Rattle.dns_multiplexer.specs.History.{Sending, sending, sending_by, with_later, is_send_of, is_ended_by, is_unended, live, id_in, brought, has_taken, untaken, queued, is_cancel_of, is_cancelled, waiting, all_put_out, is_pop, outbound, most_waiting}
use Rattle.dns_multiplexer.specs.Machine.{Settings, Life, State, lives_under, waiting_of, has_room}
use Rattle.dns_multiplexer.specs.Runs.{life_at}

-- ---- what a history says of one request, in the machine's words

-- the life of a request, from its sending
abbrev pub lives_still : ℕ → ℕ → Sending → Option Life
lives_still timeout number s = if list_any (is_ended_by timeout number s.moment) s.later then None else Some
    (record { id = s.id; moment = s.moment })

abbrev pub life_told : ℕ → ℕ → Option Sending → Option Life
life_told timeout number None = None
life_told timeout number (Some s) = lives_still timeout number s

-- what the law is proved by: the history's word on each number, and which numbers were given out
pub record Agrees (settings : Settings) (start : List SerialMessageValue) (history : List Event)
    (state : State) : Type 0 where
  pub given : (number : ℕ) → is_some (sending history number) ≡ nat_lt number (length state.requests)
  pub life : (number : ℕ) → life_at state number ≡ life_told settings.timeout number (sending history number)
  pub waiting : (number : ℕ) → waiting_of (slice_get state.requests number) ≡ waiting settings.timeout history number
  pub taken : (number : ℕ) → count_by (has_taken number) history ≤ length (queued settings.timeout history number)
  pub outbound : state.outbound ≡ outbound settings.server start history
  pub popped : count_by is_pop history ≤ length (start ++ all_put_out settings.server history)
  pub apart : (id m n : ℕ) → lives_under id (life_at state m) ≡ true → lives_under id (life_at state n) ≡ true → m ≡ n

-- ---- one event more, in the history

-- what an event leaves of a life
abbrev pub life_after : ℕ → ℕ → Event → Option Life → Option Life
life_after timeout number e None = None
life_after timeout number e (Some life) = if is_ended_by timeout number life.moment e then None else Some life

pub some-told : (timeout number : ℕ) (e : Event) (s : Sending) (a b : Bool)
    → is_ended_by timeout number s.moment e ≡ a → list_any (is_ended_by timeout number s.moment) s.later ≡ b
    → life_told timeout number (Some (with_later e s)) ≡ life_after timeout number e (life_told timeout number (Some s))
some-told timeout number e s true true h k = rw (h, k) refl
some-told timeout number e s true false h k = rw (h, k, h) refl
some-told timeout number e s false true h k = rw (h, k) refl
some-told timeout number e s false false h k = rw (h, k, h) refl

pub told-later : (timeout number : ℕ) (e : Event) (s : Option Sending)
    → life_told timeout number (option_map (with_later e) s) ≡ life_after timeout number e (life_told timeout number s)
told-later timeout number e None = refl
told-later timeout number e (Some s) = some-told timeout number e s _ _ refl refl

-- a request is live where it has a life
pub live_told-case : (a : Bool) (life : Life) → not a ≡ is_some (if a then None else Some life)
live_told-case true life = refl
live_told-case false life = refl

pub live_told : (timeout number : ℕ) (s : Option Sending)
    → is_unended timeout number s ≡ is_some (life_told timeout number s)
live_told timeout number None = refl
live_told timeout number (Some s) = live_told-case (list_any (is_ended_by timeout number s.moment) s.later) _

-- its id is that of its life
pub id_told-case : (a : Bool) (life : Life)
    → option_map (λ l. l.id) (if a then None else Some life) ≡ (if not a then Some life.id else None)
id_told-case true life = refl
id_told-case false life = refl

pub id_told : (timeout number : ℕ) (s : Option Sending)
    → option_map (λ l. l.id) (life_told timeout number s) ≡ (if is_unended timeout number s then id_in s else None)
id_told timeout number None = refl
id_told timeout number (Some s) = id_told-case (list_any (is_ended_by timeout number s.moment) s.later)
    (record { id = s.id; moment = s.moment })

pub under_id : (id : ℕ) (life : Option Life) → option_map (λ l. l.id) life ≡ Some id → lives_under id life ≡ true
under_id id None h = cc
under_id id (Some life) h = let same : life.id ≡ id = cc in eq-eqb life.id id same

pub id_under : (id : ℕ) (life : Option Life) → lives_under id life ≡ true → option_map (λ l. l.id) life ≡ Some id
id_under id None h = cc
id_under id (Some life) h = ap Some (eqb-true life.id id h)

-- one that is cancelled has none
pub cancel_ends : (timeout number moment : ℕ) (e : Event) → is_cancel_of number e ≡ true
    → is_ended_by timeout number moment e ≡ true
cancel_ends timeout number moment (Cancel other) h = h
cancel_ends timeout number moment (Send request m drawn took reply) h = cc
cancel_ends timeout number moment (Arrive bytes reply) h = cc
cancel_ends timeout number moment (Take other reply) h = cc
cancel_ends timeout number moment (Tick now) h = cc
cancel_ends timeout number moment (Close fault) h = refl
cancel_ends timeout number moment (Pop message) h = cc

pub either-ends : {P Q : Type 0} (a b : Bool) → P ⊎ Q → (P → a ≡ true) → (Q → b ≡ true) → (a || b) ≡ true
either-ends a b (inl p) first second = rw (first p) refl
either-ends a b (inr q) first second = or_right a b (second q)

pub cancels_end : (timeout number moment : ℕ) (es : List Event) → list_any (is_cancel_of number) es ≡ true
    → list_any (is_ended_by timeout number moment) es ≡ true
cancels_end timeout number moment [] h = cc
cancels_end timeout number moment (e ∷ es) h =
    either-ends (is_ended_by timeout number moment e) _ (or_cases (is_cancel_of number e) _ h)
    (cancel_ends timeout number moment e) (cancels_end timeout number moment es)

-- what waits after an event, by the life and what waited before it
abbrev pub gain : Event → Option Life → List Reply → List Reply
gain e life items = if is_some life && has_room items then brought (option_map (λ l. l.id) life) e else []

abbrev pub one_if : Bool → ℕ
one_if true = 1
one_if false = 0

abbrev pub waits_after : ℕ → Event → Option Life → List Reply → List Reply
waits_after number e life items = if is_cancel_of number e then [] else drop (one_if (has_taken number e))
    items ++ gain e life items

-- what takes brings nothing
pub take_or_bring : (number : ℕ) (id : Option ℕ) (e : Event) → (has_taken number e ≡ false) ⊎ (brought id e ≡ [])
take_or_bring number id (Send request moment drawn took reply) = inl refl
take_or_bring number id (Arrive bytes reply) = inl refl
take_or_bring number id (Take other reply) = inr refl
take_or_bring number id (Cancel other) = inl refl
take_or_bring number id (Tick now) = inl refl
take_or_bring number id (Close fault) = inl refl
take_or_bring number id (Pop message) = inl refl

pub nothing-gained : (b : Bool) (xs : List Reply) → xs ≡ [] → (if b then xs else []) ≡ []
nothing-gained true xs h = h
nothing-gained false xs h = refl

pub drop-more : {X : Type 0} (t : ℕ) (b : Bool) (xs ys : List X) → t ≤ length xs → (b ≡ false) ⊎ (ys ≡ [])
    → drop (t + one_if b) (xs ++ ys) ≡ drop (one_if b) (drop t xs) ++ ys
drop-more t true xs ys fits (inl nay) = cc
drop-more t true xs ys fits (inr none) = rw none
    (rw (append-nil xs, append-nil (drop 1 (drop t xs))) (sym (drop-drop 1 t xs)))
drop-more t false xs ys fits none = rw add-zero (drop-append-le t xs ys fits)

pub plus-case : (b : Bool) (n : ℕ) → cond b 1 0 + n ≡ n + one_if b
plus-case true n = omega arith
plus-case false n = omega arith

pub count-step : {X : Type 0} (p : X → Bool) (x : X) (xs : List X) → count_by p (x ∷ xs) ≡ count_by p xs + one_if (p x)
count-step p x xs = sum_by-cons (λ y. cond (p y) 1 0) x xs ∙ plus-case (p x) (count_by p xs)

abbrev pub nothing : List Reply
nothing = []

pub drop-nothing : (b : Bool) → drop (one_if b) nothing ++ nothing ≡ nothing
drop-nothing true = refl
drop-nothing false = refl

-- what waits for a request, as far as it was given out and isn't cancelled
module _ (t number : ℕ) (e : Event) (before : List Event) where
  abbrev pub gained : List Reply
  gained =
      if live t before number && nat_lt (length (untaken before number (queued t before number))) most_waiting
      then brought (id_in (sending before number)) e
      else []

  -- what was queued before and the event brought, less what was taken
  pub untaken-more : count_by (has_taken number) before ≤ length (queued t before number)
      → untaken (e ∷ before) number (queued t (e ∷ before) number) ≡ drop (one_if (has_taken number e))
      (untaken before number (queued t before number)) ++ gained
  unfolding queued
  untaken-more fits =
      ap (λ n. drop n (queued t before number ++ gained)) (count-step (has_taken number) e before)
      ∙ drop-more (count_by (has_taken number) before) (has_taken number e) (queued t before number) gained fits
      (either (take_or_bring number (id_in (sending before number)) e))
    where
      either : (has_taken number e ≡ false) ⊎ (brought (id_in (sending before number)) e ≡ [])
          → (has_taken number e ≡ false) ⊎ (gained ≡ [])
      either (inl nay) = inl nay
      either (inr none) = inr
          (nothing-gained (live t before number && nat_lt (length (untaken before number (queued t before number))) most_waiting) _ none)

  -- what the event brings, by the request's life
  pub gain-told : (s : Option Sending) → sending before number ≡ s → is_cancelled number s ≡ false
      → gained ≡ gain e (life_told t number s) (waiting t before number)
  gain-told None is kept = rw is refl
  gain-told (Some s) is kept = gain-case (list_any (is_ended_by t number s.moment) s.later) refl
    where
      gain-case : (b : Bool) → list_any (is_ended_by t number s.moment) s.later ≡ b
          → gained ≡ gain e (life_told t number (Some s)) (waiting t before number)
      gain-case true ended = rw (is, ended) refl
      gain-case false ended = rw (is, ended, kept) refl

  -- an event that isn't the request's sending, and a request that is sent
  pub waits-sent : (s : Sending) → sending before number ≡ Some s → (c : Bool) → is_cancelled number (Some s) ≡ c
      → count_by (has_taken number) before ≤ length (queued t before number)
      → (if is_cancel_of number e || c then [] else untaken (e ∷ before) number (queued t (e ∷ before) number))
      ≡ waits_after number e (life_told t number (Some s)) (waiting t before number)
  waits-sent s is true gone fits = gone-case (is_cancel_of number e)
    where
      over : list_any (is_ended_by t number s.moment) s.later ≡ true
      over = cancels_end t number s.moment s.later gone

      gone-case : (b : Bool) → (if b || true then [] else untaken (e ∷ before) number (queued t (e ∷ before) number))
          ≡ (if b then [] else drop (one_if (has_taken number e)) (waiting t before number)
          ++ gain e (life_told t number (Some s)) (waiting t before number))
      gone-case true = refl
      gone-case false = rw (is, gone, over) (sym (drop-nothing (has_taken number e)))
  waits-sent s is false kept fits = kept-case (is_cancel_of number e)
    where
      kept-case : (b : Bool) → (if b || false then [] else untaken (e ∷ before) number (queued t (e ∷ before) number))
          ≡ (if b then [] else drop (one_if (has_taken number e)) (waiting t before number)
          ++ gain e (life_told t number (Some s)) (waiting t before number))
      kept-case true = refl
      kept-case false =
          let there : waiting t before number ≡ untaken before number (queued t before number) = rw (is, kept) refl in
          untaken-more fits ∙ rw (gain-told (Some s) is kept, there) refl

  -- one that isn't: nothing waits
  pub waits-unsent : sending before number ≡ None → waiting t before number ≡ []
      → count_by (has_taken number) before ≤ length (queued t before number)
      → untaken (e ∷ before) number (queued t (e ∷ before) number) ≡ waits_after number e None []
  waits-unsent is none fits = unsent-case (is_cancel_of number e)
    where
      empty : untaken before number (queued t before number) ≡ []
      empty = (rw is refl) ∙ none

      unbrought : gained ≡ []
      unbrought = rw is refl

      all-gone : untaken (e ∷ before) number (queued t (e ∷ before) number) ≡ []
      all-gone = untaken-more fits ∙ ap (λ xs. drop (one_if (has_taken number e)) xs ++ gained) empty
          ∙ ap (λ xs. drop (one_if (has_taken number e)) nothing ++ xs) unbrought ∙ drop-nothing (has_taken number e)

      unsent-case : (b : Bool)
          → untaken (e ∷ before) number (queued t (e ∷ before) number) ≡
          (if b then [] else drop (one_if (has_taken number e)) [] ++ [])
      unsent-case true = all-gone
      unsent-case false = all-gone ∙ sym (drop-nothing (has_taken number e))

  -- what waits after an event that isn't the request's sending
  pub later-sending : (s : Option Sending) → is_send_of number e ≡ false → sending before number ≡ s
      → sending (e ∷ before) number ≡ option_map (with_later e) s
  unfolding sending
  later-sending s other is =
      cond-false (is_send_of number e) (Some (sending_by e)) (option_map (with_later e) (sending before number))
      other ∙ ap (option_map (with_later e)) is

  pub waits-by : (s : Option Sending) → (s ≡ None → waiting t before number ≡ []) → sending before number ≡ s
      → count_by (has_taken number) before ≤ length (queued t before number)
      → (if is_cancelled number (option_map (with_later e) s) then [] else untaken (e ∷ before) number (queued t (e ∷ before) number))
      ≡ waits_after number e (life_told t number s) (waiting t before number)
  waits-by None empty is fits = waits-unsent is (empty refl) fits ∙ ap (waits_after number e None) (sym (empty refl))
  waits-by (Some s) empty is fits = waits-sent s is (is_cancelled number (Some s)) refl fits

  pub waits-later : (s : Option Sending) → is_send_of number e ≡ false → sending before number ≡ s
      → (s ≡ None → waiting t before number ≡ [])
      → count_by (has_taken number) before ≤ length (queued t before number)
      → waiting t (e ∷ before) number ≡ waits_after number e (life_told t number s) (waiting t before number)
  waits-later s other is empty fits =
      ap (λ o. if is_cancelled number o then [] else untaken (e ∷ before) number (queued t (e ∷ before) number))
      (later-sending s other is)
      ∙ waits-by s empty is fits
