-- A core that is the replay of its journal stays so: with each call the journal has one entry more.
use Rattle.std.proofs.Common.{◌≡◌, ◌≢◌, ℕ, ◌+◌, ◌≤◌, ◌<◌, Bool, true, false, List, [], ◌∷◌, ◌++◌, drop, length, Option, None, Some, Result, Ok, Err, refl, sym, ap, ◌∙◌, subst, arith, length-append, slice_get, reverse, if◌then◌else◌}
use Rattle.std.specs.Prelude.{is_ok}
use Rattle.std.proofs.lemmas.List.{length-reverse, reverse-append}
use Rattle.dns_handle.specs.declared.io_kind.IoKind.{IoKind}
use Rattle.dns_handle.specs.Errors.{ErrorValue, NoConnections}
use Rattle.dns_multiplexer.specs.declared.arrival.Arrival.{Arrival}
use Rattle.dns_multiplexer.specs.Messages.{SerialMessageValue}
use Rattle.dns_multiplexer.specs.Events as mux
use Rattle.dns_multiplexer.specs.Events.{Event, TakenValue}
use Rattle.dns_multiplexer.specs.Machine.{Settings, Request, State, IsAnswered, after, changed_at, taken_from}
use Rattle.dns_multiplexer.specs.Brought.{TracedCore, brought_at, brought_by_send, brought_by_arrival, brought_by_close}
use Rattle.dns_multiplexer.specs.Draws.{CoreValue, Plays}
use Rattle.dns_journal.specs.declared.entry.Found.{Found}
use Rattle.dns_journal.specs.Entries.{Entry, Send, Arrive, Take, Cancel, Tick, Close, Pop}
use Rattle.dns_multiplexer.specs.Runs.{replay}
use Rattle.dns_journal.specs.Histories.{history, is_closed, state_after, machine_after, brought_by, brought_after, taken_at, place_in, IsLegal, IsReplied, IsRepliedSend, IsRepliedTake}
use Rattle.dns_journal.specs.Limits.{most_entries, most_bytes, bytes_by, bytes_in, kept_in}
use Rattle.dns_journal.specs.Replays.{IsReplay, found_by}
use Rattle.dns_journal.proofs.StepLemmas.{stepped, state_more}
use Rattle.dns_journal.proofs.ItemLemmas.{place_found, take_gives}

-- ---- one entry more

replay_more : (about : Settings) (journal : List Entry) (e : Entry) (old new : TracedCore) (bytes sum before room : ℕ)
    → IsReplay about journal old bytes before → IsReplied about (reverse journal) e
    → new.machine ≡ machine_after about (e ∷ reverse journal)
    → new.brought ≡ brought_by old.machine.state (length (reverse journal)) e old.brought
    → sum ≡ bytes + bytes_by e → sum ≤ most_bytes → kept_in new.machine ≤ room
    → length journal + 1 + kept_in new.machine ≤ most_entries → IsReplay about (journal ++ e ∷ []) new sum room
unfolding IsLegal brought_after bytes_in
replay_more about journal e old new bytes sum before room told replied machine brought counted light left fits =
    let past : reverse (journal ++ e ∷ []) ≡ e ∷ reverse journal = reverse-append journal (e ∷ []) in
    record {
      legal = subst (λ (p : List Entry). IsLegal about p) (sym past) (told.legal, replied);
      machine = subst (λ (p : List Entry). new.machine ≡ machine_after about p) (sym past) machine;
      brought = subst (λ (p : List Entry). new.brought ≡ brought_after about p) (sym past) (brought
          ∙ ap (λ (m : CoreValue). brought_by m.state (length (reverse journal)) e old.brought) told.machine
          ∙ ap (brought_by (state_after about (reverse journal)) (length (reverse journal)) e) told.brought);
      counted = subst (λ (p : List Entry). sum ≡ bytes_in p) (sym past)
          (counted ∙ ap (λ n. n + bytes_by e) told.counted);
      light = light;
      kept = left;
      fits = omega (arith, fits, length-append journal (e ∷ []));
    }

-- the same with other room
pub replay_roomy : (about : Settings) (journal : List Entry) (core : TracedCore) (bytes before room : ℕ)
    → IsReplay about journal core bytes before → kept_in core.machine ≤ room → IsReplay about journal core bytes room
replay_roomy about journal core bytes before room told left = record {
  legal = told.legal;
  machine = told.machine;
  brought = told.brought;
  counted = told.counted;
  light = told.light;
  kept = left;
  fits = told.fits;
}

-- ---- an event of the multiplexer

abbrev pub moved_by : Event → CoreValue → CoreValue
moved_by event machine = record machine { state = after machine.settings machine.state event }

abbrev machine_with : Settings → State → Bool → CoreValue
machine_with about state closed = record { settings = about; state = state; is_shutdown = closed }

machine_more : (about : Settings) (past : List Entry) (e : Entry) (event : Event) (old new : CoreValue)
    → old ≡ machine_after about past → stepped about (state_after about past) past e ≡ after about
    (state_after about past) event
    → is_closed (e ∷ past) ≡ is_closed past → new ≡ moved_by event old → new ≡ machine_after about (e ∷ past)
machine_more about past e event old new machine step opens moved =
    moved
    ∙ ap (moved_by event) machine
    ∙ ap (λ (s : State). machine_with about s (is_closed past)) (sym (state_more about past e ∙ step))
    ∙ ap (machine_with about (state_after about (e ∷ past))) (sym opens)

pub moved_machine : (old new : CoreValue) (event : Event) → Plays old.settings old.state new.state event
    → new ≡ record old { state = new.state } → new ≡ moved_by event old
moved_machine old new event plays kept = kept ∙ ap (λ (s : State). record old { state = s }) plays.moved

-- an event that the core played, and its entry
pub record IsPlayedEntry (e : Entry) (event : Event) (journal : List Entry) (old new : TracedCore) : Type 0 where
  pub step : stepped old.machine.settings (state_after old.machine.settings (reverse journal)) (reverse journal) e
      ≡ after old.machine.settings (state_after old.machine.settings (reverse journal)) event
  pub opens : is_closed (e ∷ reverse journal) ≡ is_closed (reverse journal)
  pub replied : IsReplied old.machine.settings (reverse journal) e
  pub plays : Plays old.machine.settings old.machine.state new.machine.state event
  pub kept : new.machine ≡ record old.machine { state = new.machine.state }
  pub brought : new.brought ≡ brought_by old.machine.state (length (reverse journal)) e old.brought

module _ (e : Entry) where
  event_replay : (event : Event) (old new : TracedCore) (journal items : List Entry) (bytes sum before room : ℕ)
      → IsReplay old.machine.settings journal old bytes before → IsPlayedEntry e event journal old new
      → sum ≡ bytes + bytes_by e → sum ≤ most_bytes → kept_in new.machine ≤ room
      → length journal + 1 + kept_in new.machine ≤ most_entries → items ≡ journal ++ e ∷ []
      → IsReplay new.machine.settings items new sum room
  event_replay event old new journal items bytes sum before room told played counted light left fits is =
      let about : Settings = old.machine.settings in
      let moved : new.machine ≡ moved_by event old.machine = moved_machine old.machine new.machine event played.plays
      played.kept in
      let machine : new.machine ≡ machine_after about (e ∷ reverse journal) =
      machine_more about (reverse journal) e event old.machine new.machine told.machine played.step played.opens moved
      in
      let replay : IsReplay about (journal ++ e ∷ []) new sum room =
      replay_more about journal e old new bytes sum before room told played.replied machine played.brought counted light
      left
      fits in
      let same : about ≡ new.machine.settings = sym (ap (λ (m : CoreValue). m.settings) played.kept) in
      subst (λ (s : Settings). IsReplay s items new sum room) same
      (subst (λ (xs : List Entry). IsReplay about xs new sum room) (sym is) replay)

-- an event that leaves the queue and the flag, and keeps no byte
module _ (e : Entry) where
  quiet_replay : (event : Event) (old new : TracedCore) (journal items : List Entry) (bytes before left room : ℕ)
      → IsReplay old.machine.settings journal old bytes before → IsPlayedEntry e event journal old new
      → bytes_by e ≡ 0 → kept_in (moved_by event old.machine) ≡ kept_in old.machine
      → length journal + kept_in old.machine + 1 ≤ most_entries → kept_in old.machine + 1 ≤ left → room + 1 ≡ left
      → items ≡ journal ++ e ∷ [] → IsReplay new.machine.settings items new bytes room
  quiet_replay event old new journal items bytes before left room told played none still fits roomy less is =
      let same : kept_in new.machine ≡ kept_in old.machine =
      ap kept_in (moved_machine old.machine new.machine event played.plays played.kept) ∙ still in
      event_replay e event old new journal items bytes bytes before room told played (omega (arith, none)) told.light
      (omega (arith, same, roomy, less)) (omega (arith, same, fits)) is

-- ---- the calls

pub tick_replay : (moment : ℕ) (old new : TracedCore) (journal items : List Entry) (bytes before left room : ℕ)
    → IsReplay old.machine.settings journal old bytes before
    → Plays old.machine.settings old.machine.state new.machine.state (mux.Tick moment)
    → new.machine ≡ record old.machine { state = new.machine.state } → new.brought ≡ old.brought
    → length journal + kept_in old.machine + 1 ≤ most_entries → kept_in old.machine + 1 ≤ left → room + 1 ≡ left
    → items ≡ journal ++ Tick moment ∷ [] → IsReplay new.machine.settings items new bytes room
tick_replay moment old new journal items bytes before left room told plays kept brought fits roomy less is =
    quiet_replay (Tick moment) (mux.Tick moment) old new journal items bytes before left room told
    (record { step = refl; opens = refl; replied = tt; plays = plays; kept = kept; brought = brought })
    refl refl fits roomy less is

pub cancel_replay : (number : ℕ) (old new : TracedCore) (journal items : List Entry) (bytes before left room : ℕ)
    → IsReplay old.machine.settings journal old bytes before
    → Plays old.machine.settings old.machine.state new.machine.state (mux.Cancel number)
    → new.machine ≡ record old.machine { state = new.machine.state }
    → new.brought ≡ changed_at number (λ _. []) old.brought
    → length journal + kept_in old.machine + 1 ≤ most_entries → kept_in old.machine + 1 ≤ left → room + 1 ≡ left
    → items ≡ journal ++ Cancel number ∷ [] → IsReplay new.machine.settings items new bytes room
cancel_replay number old new journal items bytes before left room told plays kept brought fits roomy less is =
    quiet_replay (Cancel number) (mux.Cancel number) old new journal items bytes before left room told
    (record { step = refl; opens = refl; replied = tt; plays = plays; kept = kept; brought = brought })
    refl refl fits roomy less is

-- what the machine gives is what the entry at the place brought
pub take_found : (number : ℕ) (old : TracedCore) (journal : List Entry) (bytes before : ℕ) (taken : TakenValue)
    (place : Option ℕ)
    → IsReplay old.machine.settings journal old bytes before
    → taken ≡ taken_from (slice_get old.machine.state.requests number)
    → place ≡ slice_get (brought_at old.brought number) 0
    → taken ≡ taken_at (reverse journal) (found_by taken place)
take_found number old journal bytes before taken place told is at =
    let about : Settings = old.machine.settings in
    let past : List Entry = reverse journal in
    let given : taken ≡ taken_from (slice_get (state_after about past).requests number) =
    is ∙ ap (λ (m : CoreValue). taken_from (slice_get m.state.requests number)) told.machine in
    let from : place ≡ slice_get (brought_at (brought_after about past) number) 0 =
    at ∙ ap (λ (b : List (List ℕ)). slice_get (brought_at b number) 0) told.brought in
    given ∙ take_gives about past number told.legal
    ∙ ap (λ (t : TakenValue). taken_at past (found_by t (slice_get (brought_at (brought_after about past) number) 0)))
    (sym given)
    ∙ ap (λ (p : Option ℕ). taken_at past (found_by taken p)) (sym from)

module _ (number : ℕ) (old new : TracedCore) where
  pub take_replay : (journal items : List Entry) (bytes before left room : ℕ)
      (taken : TakenValue) (place : Option ℕ) (found : Found)
      → IsReplay old.machine.settings journal old bytes before
      → Plays old.machine.settings old.machine.state new.machine.state (mux.Take number taken)
      → place ≡ slice_get (brought_at old.brought number) 0 → found ≡ found_by taken place
      → new.machine ≡ record old.machine { state = new.machine.state }
      → new.brought ≡ changed_at number (drop 1) old.brought
      → length journal + kept_in old.machine + 1 ≤ most_entries → kept_in old.machine + 1 ≤ left → room + 1 ≡ left
      → items ≡ journal ++ Take number found ∷ [] → IsReplay new.machine.settings items new bytes room
  take_replay journal items bytes before left room taken place found told plays at named kept brought fits roomy
      less is =
      let about : Settings = old.machine.settings in
      let past : List Entry = reverse journal in
      let gives : taken ≡ taken_at past found =
      take_found number old journal bytes before taken place told plays.answered at
      ∙ ap (taken_at past) (sym named) in
      let named_place : place_in found ≡ slice_get (brought_at (brought_after about past) number) 0 =
      ap place_in named ∙ place_found taken place ∙ at
      ∙ ap (λ (b : List (List ℕ)). slice_get (brought_at b number) 0) told.brought in
      let answered : taken_at past found ≡ taken_from (slice_get (state_after about past).requests number) =
      sym gives ∙ plays.answered
      ∙ ap (λ (m : CoreValue). taken_from (slice_get m.state.requests number)) told.machine in
      quiet_replay (Take number found) (mux.Take number taken) old new journal items bytes before left room told
      (record {
        step = refl;
        opens = refl;
        replied = record { place = named_place; answered = answered };
        plays = plays;
        kept = kept;
        brought = brought;
      })
      refl refl fits roomy less is

module _ (came : List ℕ) (reply : Arrival) (place : ℕ) where
  pub arrive_replay : (old new : TracedCore) (journal items : List Entry)
      (bytes sum before left room : ℕ)
      → IsReplay old.machine.settings journal old bytes before
      → Plays old.machine.settings old.machine.state new.machine.state (mux.Arrive came reply)
      → new.machine ≡ record old.machine { state = new.machine.state } → place ≡ length journal
      → new.brought ≡ brought_by_arrival reply place old.brought → sum ≡ bytes + length came → sum ≤ most_bytes
      → length journal + kept_in old.machine + 1 ≤ most_entries → kept_in old.machine + 1 ≤ left → room + 1 ≡ left
      → items ≡ journal ++ Arrive came reply ∷ [] → IsReplay new.machine.settings items new sum room
  arrive_replay old new journal items bytes sum before left room told plays kept last brought counted light fits
      roomy less is =
      let same : kept_in new.machine ≡ kept_in old.machine =
      ap kept_in (moved_machine old.machine new.machine (mux.Arrive came reply) plays kept) in
      let here : place ≡ length (reverse journal) = last ∙ sym (length-reverse journal) in
      event_replay (Arrive came reply) (mux.Arrive came reply) old new journal items bytes sum before room told
      (record {
        step = refl;
        opens = refl;
        replied = subst (λ (m : CoreValue). IsAnswered old.machine.settings m.state (mux.Arrive came reply))
            told.machine plays.answered;
        plays = plays;
        kept = kept;
        brought = brought ∙ ap (λ p. brought_by_arrival reply p old.brought) here;
      })
      counted light (omega (arith, same, roomy, less)) (omega (arith, same, fits)) is

-- a message that is popped leaves its place
pub pop_replay : (message : SerialMessageValue) (old new : TracedCore) (journal items : List Entry)
    (bytes before room : ℕ)
    → IsReplay old.machine.settings journal old bytes before
    → Plays old.machine.settings old.machine.state new.machine.state (mux.Pop message)
    → new.machine ≡ record old.machine { state = new.machine.state } → new.brought ≡ old.brought
    → room + 1 ≡ before → items ≡ journal ++ Pop ∷ [] → IsReplay new.machine.settings items new bytes room
pop_replay message old new journal items bytes before room told plays kept brought less is =
    let first : (waiting : List SerialMessageValue) → Some message ≡ slice_get waiting 0
    → length (drop 1 waiting) + 1 ≡ length waiting
    = one_less in
    let moved : kept_in new.machine + 1 ≡ kept_in old.machine =
    let same = ap kept_in (moved_machine old.machine new.machine (mux.Pop message) plays kept) in
    let one = first old.machine.state.outbound plays.answered in
    omega (arith, same, one) in
    event_replay Pop (mux.Pop message) old new journal items bytes bytes before room told
    (record {
      step = refl;
      opens = refl;
      replied = λ none. some_waits old.machine.state.outbound plays.answered
          (ap (λ (m : CoreValue). m.state.outbound) told.machine ∙ none);
      plays = plays;
      kept = kept;
      brought = brought;
    })
    (omega arith) told.light (omega (arith, told.kept, moved, less)) (omega (arith, told.fits, moved)) is
  where
    one_less : (waiting : List SerialMessageValue) → Some message ≡ slice_get waiting 0
        → length (drop 1 waiting) + 1 ≡ length waiting
    one_less [] h = cc
    one_less (m ∷ ms) h = omega arith

    some_waits : (waiting : List SerialMessageValue) → Some message ≡ slice_get waiting 0 → waiting ≢ []
    some_waits [] h none = cc
    some_waits (m ∷ ms) h none = cc

-- ---- a send

-- one that the multiplexer answered; an accepted one keeps a place for its pop
module _ (request : Option (List ℕ)) (moment : ℕ) (drawn : List ℕ) (reply : Result ℕ ErrorValue) where
  pub send_replay : (old new : TracedCore) (journal items : List Entry) (bytes sum before left room : ℕ)
      → IsReplay old.machine.settings journal old bytes before → is_closed (reverse journal) ≡ false
      → Plays old.machine.settings old.machine.state new.machine.state
      (mux.Send request moment drawn (is_ok reply) reply)
      → new.machine ≡ record old.machine { state = new.machine.state } → new.brought ≡ brought_by_send reply old.brought
      → kept_in (moved_by (mux.Send request moment drawn (is_ok reply) reply) old.machine) ≤ kept_in old.machine + 1
      → sum ≡ bytes + bytes_by (Send request moment drawn reply) → sum ≤ most_bytes
      → length journal + kept_in old.machine + 2 ≤ most_entries → kept_in old.machine + 2 ≤ left → room + 1 ≡ left
      → items ≡ journal ++ Send request moment drawn reply ∷ [] → IsReplay new.machine.settings items new sum room
  send_replay old new journal items bytes sum before left room told opened plays kept brought grows
      counted light fits roomy less is =
      let event : Event = mux.Send request moment drawn (is_ok reply) reply in
      let same : kept_in new.machine ≡ kept_in (moved_by event old.machine) =
      ap kept_in (moved_machine old.machine new.machine event plays kept) in
      let answered : IsAnswered old.machine.settings (state_after old.machine.settings (reverse journal)) event =
      subst (λ (m : CoreValue). IsAnswered old.machine.settings m.state event) told.machine plays.answered in
      event_replay (Send request moment drawn reply) event old new journal items bytes sum before room told
      (record {
        step = ap (λ (b : Bool). if b then state_after old.machine.settings (reverse journal)
            else after old.machine.settings (state_after old.machine.settings (reverse journal)) event) opened;
        opens = refl;
        replied = subst (λ (b : Bool). IsRepliedSend old.machine.settings
            (state_after old.machine.settings (reverse journal)) b
            request moment drawn reply) (sym opened) answered;
        plays = plays;
        kept = kept;
        brought = brought;
      })
      counted light (omega (arith, same, grows, roomy, less)) (omega (arith, same, grows, fits)) is

-- one after a close
module _ (request : Option (List ℕ)) where
  pub refused_replay : (moment : ℕ) (core : TracedCore) (journal items : List Entry)
      (bytes sum before left room : ℕ)
      → IsReplay core.machine.settings journal core bytes before → is_closed (reverse journal) ≡ true
      → sum ≡ bytes + bytes_by (Send request moment [] (Err NoConnections)) → sum ≤ most_bytes
      → length journal + kept_in core.machine + 1 ≤ most_entries → kept_in core.machine + 1 ≤ left → room + 1 ≡ left
      → items ≡ journal ++ Send request moment [] (Err NoConnections) ∷ []
      → IsReplay core.machine.settings items core sum room
  refused_replay moment core journal items bytes sum before left room told closed counted light fits roomy less is =
      let about : Settings = core.machine.settings in
      let past : List Entry = reverse journal in
      let e : Entry = Send request moment [] (Err NoConnections) in
      let event : Event = mux.Send request moment [] false (Err NoConnections) in
      let replied : IsReplied about past e =
      subst (λ (b : Bool). IsRepliedSend about (state_after about past) b request moment [] (Err NoConnections))
      (sym closed)
      (refl, refl) in
      let stays : stepped about (state_after about past) past e ≡ state_after about past =
      ap (λ (b : Bool). if b then state_after about past else after about (state_after about past) event) closed in
      let machine : core.machine ≡ machine_after about (e ∷ past) =
      told.machine ∙ ap (λ (s : State). machine_with about s (is_closed past))
      (sym (state_more about past e ∙ stays)) in
      subst (λ (xs : List Entry). IsReplay about xs core sum room) (sym is)
      (replay_more about journal e core core bytes sum before room told replied machine refl counted light
      (omega (arith, roomy, less)) (omega (arith, fits)))

-- ---- a close

close_machine : (about : Settings) (past : List Entry) (fault : IoKind) (old new : CoreValue)
    → old ≡ machine_after about past
    → new ≡ record (moved_by (mux.Close fault) old) { is_shutdown = true }
    → new ≡ machine_after about (Close fault ∷ past)
close_machine about past fault old new machine moved =
    moved
    ∙ ap (λ (m : CoreValue). record (moved_by (mux.Close fault) m) { is_shutdown = true }) machine
    ∙ ap (λ (s : State). machine_with about s true) (sym (state_more about past (Close fault)))

-- the first one leaves its place
module _ (fault : IoKind) where
  pub close_replay : (place : ℕ) (old new : TracedCore) (journal items : List Entry)
      (bytes before left room : ℕ)
      → IsReplay old.machine.settings journal old bytes before
      → Plays old.machine.settings old.machine.state new.machine.state (mux.Close fault)
      → new.machine ≡ record old.machine { state = new.machine.state; is_shutdown = true } → place ≡ length journal
      → new.brought ≡ brought_by_close place old.machine.state.requests old.brought
      → length journal + 1 + length old.machine.state.outbound ≤ most_entries
      → length old.machine.state.outbound + 1 ≤ left → room + 1 ≡ left
      → items ≡ journal ++ Close fault ∷ [] → IsReplay new.machine.settings items new bytes room
  close_replay place old new journal items bytes before left room told plays kept last brought fits roomy less is =
      let about : Settings = old.machine.settings in
      let moved : new.machine ≡ record (moved_by (mux.Close fault) old.machine) { is_shutdown = true } =
      kept ∙ ap (λ (s : State). record old.machine { state = s; is_shutdown = true }) plays.moved in
      let keeps : kept_in new.machine ≡ 0 + length old.machine.state.outbound = ap kept_in moved in
      let machine : new.machine ≡ machine_after about (Close fault ∷ reverse journal) =
      close_machine about (reverse journal) fault old.machine new.machine told.machine moved in
      let here : place ≡ length (reverse journal) = last ∙ sym (length-reverse journal) in
      let same : about ≡ new.machine.settings = sym (ap (λ (m : CoreValue). m.settings) kept) in
      subst (λ (s : Settings). IsReplay s items new bytes room) same
      (subst (λ (xs : List Entry). IsReplay about xs new bytes room) (sym is)
      (replay_more about journal (Close fault) old new bytes bytes before room told tt machine
      (brought ∙ ap (λ p. brought_by_close p old.machine.state.requests old.brought) here)
      (omega arith) told.light (omega (arith, keeps, roomy, less)) (omega (arith, keeps, fits))))

-- ---- the first state

no_items : {X : Type 0} (xs : List X) → length xs ≡ 0 → xs ≡ []
no_items [] is = refl
no_items (x ∷ xs) is = absurd (omega (arith, is))

abbrev core_with : Settings → List Request → List SerialMessageValue → Bool → CoreValue
core_with about requests outbound shut =
    record { settings = about; state = record { requests = requests; outbound = outbound }; is_shutdown = shut }

-- a multiplexer that has done nothing, and an empty journal
pub new_replay : (core : TracedCore) (items : List Entry) (room : ℕ) → core.machine.state.requests ≡ []
    → core.machine.state.outbound ≡ [] → core.machine.is_shutdown ≡ false → length core.brought ≡ 0 → items ≡ []
    → 1 ≤ room → IsReplay core.machine.settings items core 0 room
unfolding IsLegal brought_after bytes_in history replay
new_replay core items room requests outbound shut brought none roomy =
    let about : Settings = core.machine.settings in
    let machine : core.machine ≡ machine_after about [] =
    ap (λ rs. core_with about rs core.machine.state.outbound core.machine.is_shutdown) requests
    ∙ ap (λ ms. core_with about [] ms core.machine.is_shutdown) outbound
    ∙ ap (core_with about [] []) shut in
    let kept : kept_in core.machine ≡ 1 = ap kept_in machine in
    subst (λ (xs : List Entry). IsReplay about xs core 0 room) (sym none)
    (record {
      legal = tt;
      machine = machine;
      brought = no_items core.brought brought;
      counted = refl;
      light = omega arith;
      kept = omega (arith, kept, roomy);
      fits = omega (arith, kept);
    })
