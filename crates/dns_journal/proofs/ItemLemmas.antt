-- Where what waits came from: each item of a request was brought by the entry at its place.
use Rattle.std.proofs.Common.{◌≡◌, ℕ, zero, suc, ◌+◌, Bool, true, false, List, [], ◌∷◌, ◌++◌, length, drop, map, Option, None, Some, Result, Ok, Err, refl, sym, ap, ◌∙◌, arith, subst, slice_get, reverse, if◌then◌else◌}
use Rattle.std.specs.Prelude.{◌&&◌, is_some, is_ok}
use Rattle.std.proofs.lemmas.List.{length-reverse, reverse-append}
use Rattle.dns_model.specs.Records.{MessageValue}
use Rattle.dns_message.specs.declared.decode_error.DecodeError.{DecodeError}
use Rattle.dns_message.specs.MessageAt.{message_at}
use Rattle.dns_handle.specs.declared.io_kind.IoKind.{IoKind}
use Rattle.dns_handle.specs.Errors.{ErrorValue, Reply}
use Rattle.dns_multiplexer.specs.declared.arrival.Arrival.{Arrival}
use Rattle.dns_multiplexer.specs.declared.arrival.Arrival.TheVariants.{Undecodable, Stranger, Full, Queued}
use Rattle.dns_multiplexer.specs.Messages.{SerialMessageValue, answered_by, failed_by}
use Rattle.dns_multiplexer.specs.Events as mux
use Rattle.dns_multiplexer.specs.Events.{TakenValue, Item, last_drawn}
use Rattle.dns_multiplexer.specs.Machine.{Settings, Life, Request, State, after, after_arrival, after_send, arrival_reply, cancelled, changed_at, closed, first_or_end, has_room, sent_under, taken_from, ticked, waiting_of, with_fault, with_item, without_first}
use Rattle.dns_multiplexer.specs.Brought.{brought_at, brought_by_arrival, brought_by_close, brought_by_send, closed_by, takes_fault, with_event}
use Rattle.dns_multiplexer.specs.Runs.{replay}
use Rattle.dns_journal.specs.declared.entry.Found.{Found}
use Rattle.dns_journal.specs.declared.entry.Found.TheVariants.{At, Pending, Ended}
use Rattle.dns_journal.specs.Entries.{Entry, Send, Arrive, Take, Cancel, Tick, Close, Pop}
use Rattle.dns_journal.specs.Histories.{response_in, item_by, item_in, item_at, item_or_end, taken_at, place_in, is_closed, state_after, brought_by, brought_after, history, IsLegal, IsReplied, IsRepliedSend}
use Rattle.dns_journal.specs.Replays.{found_by}
use Rattle.dns_journal.proofs.StepLemmas.{stepped, state_more}

-- ---- items of entries

get_kept : {X : Type 0} (xs ys : List X) (n : ℕ) (x : X) → slice_get xs n ≡ Some x → slice_get (xs ++ ys) n ≡ Some x
get_kept [] ys n x is = cc
get_kept (y ∷ xs) ys zero x is = is
get_kept (y ∷ xs) ys (suc n) x is = get_kept xs ys n x is

get_last : {X : Type 0} (xs : List X) (x : X) → slice_get (xs ++ x ∷ []) (length xs) ≡ Some x
get_last [] x = refl
get_last (y ∷ xs) x = get_last xs x

grown-case : (entries : List Entry) (e : Entry) (place : ℕ) (item : Reply) (found : Option Entry)
    → slice_get entries place ≡ found → item_in found ≡ Some item
    → item_in (slice_get (entries ++ e ∷ []) place) ≡ Some item
grown-case entries e place item None at is = cc
grown-case entries e place item (Some old) at is = rw (get_kept entries (e ∷ []) place old at) is

-- an entry more stands at the end
entries_more : (e : Entry) (past : List Entry) → reverse (e ∷ past) ≡ reverse past ++ e ∷ []
entries_more e past = reverse-append (e ∷ []) past

-- what an entry brought stays what it brought
pub item_grown : (e : Entry) (past : List Entry) (place : ℕ) (item : Reply) → item_at past place ≡ Some item
    → item_at (e ∷ past) place ≡ Some item
item_grown e past place item is =
    ap (λ (entries : List Entry). item_in (slice_get entries place)) (entries_more e past)
    ∙ grown-case (reverse past) e place item (slice_get (reverse past) place) refl is

-- what the last entry brought stands at the last place
pub item_newest : (e : Entry) (past : List Entry) → item_at (e ∷ past) (length past) ≡ item_by e
item_newest e past =
    ap (λ (entries : List Entry). item_in (slice_get entries (length past))) (entries_more e past)
    ∙ ap (λ place. item_in (slice_get (reverse past ++ e ∷ []) place)) (sym (length-reverse past))
    ∙ ap item_in (get_last (reverse past) e)

-- ---- the items of one request

-- the items are those that the entries at these places brought
abbrev pub AreAt : List Entry → List ℕ → List Reply → Type 0
AreAt past [] [] = Unit {0}
AreAt past [] (item ∷ items) = ⊥
AreAt past (place ∷ places) [] = ⊥
AreAt past (place ∷ places) (item ∷ items) = (item_at past place ≡ Some item) × AreAt past places items

are_grown : (e : Entry) (past : List Entry) (places : List ℕ) (items : List Reply) → AreAt past places items
    → AreAt (e ∷ past) places items
are_grown e past [] [] at = tt
are_grown e past [] (item ∷ items) at = absurd at
are_grown e past (place ∷ places) [] at = absurd at
are_grown e past (place ∷ places) (item ∷ items) at =
    (item_grown e past place item at.0, are_grown e past places items at.1)

are_more : (past : List Entry) (places : List ℕ) (items : List Reply) (place : ℕ) (item : Reply)
    → item_at past place ≡ Some item → AreAt past places items
    → AreAt past (places ++ place ∷ []) (items ++ item ∷ [])
are_more past [] [] place item is at = (is, tt)
are_more past [] (i ∷ items) place item is at = absurd at
are_more past (p ∷ places) [] place item is at = absurd at
are_more past (p ∷ places) (i ∷ items) place item is at = (at.0, are_more past places items place item is at.1)

are_rest : (past : List Entry) (places : List ℕ) (items : List Reply) → AreAt past places items
    → AreAt past (drop 1 places) (drop 1 items)
are_rest past [] [] at = tt
are_rest past [] (item ∷ items) at = absurd at
are_rest past (place ∷ places) [] at = absurd at
are_rest past (place ∷ places) (item ∷ items) at = at.1

-- ---- those of all requests

abbrev pub AllAt : List Entry → List Request → List (List ℕ) → Type 0
AllAt past [] [] = Unit {0}
AllAt past [] (own ∷ brought) = ⊥
AllAt past (request ∷ requests) [] = ⊥
AllAt past (request ∷ requests) (own ∷ brought) = AreAt past own request.waiting × AllAt past requests brought

all_grown : (e : Entry) (past : List Entry) (requests : List Request) (brought : List (List ℕ))
    → AllAt past requests brought → AllAt (e ∷ past) requests brought
all_grown e past [] [] at = tt
all_grown e past [] (own ∷ brought) at = absurd at
all_grown e past (request ∷ requests) [] at = absurd at
all_grown e past (request ∷ requests) (own ∷ brought) at =
    (are_grown e past own request.waiting at.0, all_grown e past requests brought at.1)

-- a request more, for which nothing waits
all_more : (past : List Entry) (requests : List Request) (brought : List (List ℕ)) (id moment : ℕ)
    → AllAt past requests brought → AllAt past (requests ++ sent_under id moment ∷ []) (brought ++ [] ∷ [])
all_more past [] [] id moment at = (tt, tt)
all_more past [] (own ∷ brought) id moment at = absurd at
all_more past (request ∷ requests) [] id moment at = absurd at
all_more past (request ∷ requests) (own ∷ brought) id moment at = (at.0, all_more past requests brought id moment at.1)

all_changed : (past : List Entry) (requests : List Request) (brought : List (List ℕ)) (number : ℕ)
    (change : Request → Request) (own_change : List ℕ → List ℕ)
    → ((request : Request) (own : List ℕ) → AreAt past own request.waiting
    → AreAt past (own_change own) (change request).waiting)
    → AllAt past requests brought → AllAt past (changed_at number change requests)
    (changed_at number own_change brought)
unfolding changed_at
all_changed past [] [] number change own_change keeps at = tt
all_changed past [] (own ∷ brought) number change own_change keeps at = absurd at
all_changed past (request ∷ requests) [] number change own_change keeps at = absurd at
all_changed past (request ∷ requests) (own ∷ brought) zero change own_change keeps at = (keeps request own at.0, at.1)
all_changed past (request ∷ requests) (own ∷ brought) (suc number) change own_change keeps at =
    (at.0, all_changed past requests brought number change own_change keeps at.1)

all_ticked : (past : List Entry) (requests : List Request) (brought : List (List ℕ)) (timeout now : ℕ)
    → AllAt past requests brought → AllAt past (map (ticked timeout now) requests) brought
all_ticked past [] [] timeout now at = tt
all_ticked past [] (own ∷ brought) timeout now at = absurd at
all_ticked past (request ∷ requests) [] timeout now at = absurd at
all_ticked past (request ∷ requests) (own ∷ brought) timeout now at =
    (at.0, all_ticked past requests brought timeout now at.1)

-- a close adds its fault where there is room
module _ (past : List Entry) (fault : IoKind) (place : ℕ) (is : item_at past place ≡ Some (failed_by fault)) where
  room-case : (own : List ℕ) (items : List Reply) (b : Bool) → AreAt past own items
      → AreAt past (if b then with_event place own else own) (if b then items ++ failed_by fault ∷ [] else items)
  room-case own items true at = are_more past own items place (failed_by fault) is at
  room-case own items false at = at

  life-case : (own : List ℕ) (items : List Reply) (life : Option Life) → AreAt past own items
      → AreAt past (if is_some life && has_room items then with_event place own else own) (with_fault fault life items)
  life-case own items None at = at
  life-case own items (Some life) at = room-case own items (has_room items) at

  all_closed : (requests : List Request) (brought : List (List ℕ)) → AllAt past requests brought
      → AllAt past (map (closed fault) requests) (brought_by_close place requests brought)
  unfolding brought_by_close
  all_closed [] [] at = tt
  all_closed [] (own ∷ brought) at = absurd at
  all_closed (request ∷ requests) [] at = absurd at
  all_closed (request ∷ requests) (own ∷ brought) at =
      (life-case own request.waiting request.life at.0, all_closed requests brought at.1)

-- ---- after a journal

-- an arrival that is queued adds its response
arrived-case : (past : List Entry) (requests : List Request) (brought : List (List ℕ)) (place : ℕ)
    (read : Result MessageValue DecodeError) (reply : Arrival) → item_at past place ≡ response_in read
    → ((error : DecodeError) → read ≡ Err error → reply ≡ Undecodable error) → AllAt past requests brought
    → AllAt past (after_arrival read reply requests) (brought_by_arrival reply place brought)
arrived-case past requests brought place (Ok message) (Queued id) is unread at =
    all_changed past requests brought id.0 (with_item (answered_by message)) (with_event place)
    (λ request own there. are_more past own request.waiting place (answered_by message) is there) at
arrived-case past requests brought place (Ok message) (Undecodable error) is unread at = at
arrived-case past requests brought place (Ok message) Stranger is unread at = at
arrived-case past requests brought place (Ok message) Full is unread at = at
arrived-case past requests brought place (Err error) (Queued id) is unread at = absurd (differ (unread error refl))
  where
    differ : Queued id ≡ Undecodable error → ⊥
    differ h = cc
arrived-case past requests brought place (Err error) (Undecodable other) is unread at = at
arrived-case past requests brought place (Err error) Stranger is unread at = at
arrived-case past requests brought place (Err error) Full is unread at = at

arrival-read : (state : State) (read : Result MessageValue DecodeError) (reply : Arrival)
    → reply ≡ arrival_reply state read
    → (error : DecodeError) → read ≡ Err error → reply ≡ Undecodable error
arrival-read state read reply is error unread = is ∙ ap (arrival_reply state) unread

sent-case : (past : List Entry) (requests : List Request) (brought : List (List ℕ)) (id moment : ℕ)
    (reply : Result ℕ ErrorValue) → AllAt past requests brought
    → AllAt past (after_send id moment reply requests) (brought_by_send reply brought)
sent-case past requests brought id moment (Ok number) at = all_more past requests brought id moment at
sent-case past requests brought id moment (Err error) at = at

-- a send after a close changes nothing
module _ (about : Settings) where
  send-step : (all before : List Entry) (state : State) (brought : List (List ℕ)) (request : Option (List ℕ))
      (moment : ℕ) (drawn : List ℕ) (reply : Result ℕ ErrorValue) (b : Bool)
      → IsRepliedSend about state b request moment drawn reply → AllAt all state.requests brought
      → AllAt all (if b then state else after about state (mux.Send request moment drawn (is_ok reply) reply)).requests
      (brought_by_send reply brought)
  send-step all before state brought request moment drawn reply true replied at = rw replied.1 at
  send-step all before state brought request moment drawn reply false replied at =
      sent-case all state.requests brought (last_drawn drawn) moment reply at

step-at : (about : Settings) (past : List Entry) (e : Entry) (state : State) (brought : List (List ℕ))
    → state ≡ state_after about past → IsReplied about past e → AllAt (e ∷ past) state.requests brought
    → AllAt (e ∷ past) (stepped about state past e).requests (brought_by state (length past) e brought)
step-at about past (Send request moment drawn reply) state brought is replied at =
    send-step about (Send request moment drawn reply ∷ past) past state brought request moment drawn reply
    (is_closed past)
    (rw is replied) at
step-at about past (Arrive bytes reply) state brought is replied at =
    arrived-case (Arrive bytes reply ∷ past) state.requests brought (length past) (message_at bytes) reply
    (item_newest (Arrive bytes reply) past)
    (arrival-read (state_after about past) (message_at bytes) reply replied) at
step-at about past (Take number found) state brought is replied at =
    all_changed (Take number found ∷ past) state.requests brought number without_first (drop 1)
    (λ request own there. are_rest (Take number found ∷ past) own request.waiting there) at
step-at about past (Cancel number) state brought is replied at =
    all_changed (Cancel number ∷ past) state.requests brought number cancelled (λ _. []) (λ request own there. tt) at
step-at about past (Tick moment) state brought is replied at =
    all_ticked (Tick moment ∷ past) state.requests brought about.timeout moment at
step-at about past (Close fault) state brought is replied at =
    all_closed (Close fault ∷ past) fault (length past) (item_newest (Close fault) past) state.requests brought at
step-at about past Pop state brought is replied at = at

-- after each journal that can be, what waits is what the entries at the places brought
pub all_placed : (about : Settings) (past : List Entry) → IsLegal about past
    → AllAt past (state_after about past).requests (brought_after about past)
unfolding IsLegal brought_after history replay
all_placed about [] legal = tt
all_placed about (e ∷ past) legal =
    subst (λ (state : State). AllAt (e ∷ past) state.requests (brought_after about (e ∷ past)))
    (sym (state_more about past e))
    (step-at about past e (state_after about past) (brought_after about past) refl legal.1
    (all_grown e past (state_after about past).requests (brought_after about past) (all_placed about past legal.0)))

-- ---- a take

at-number : (past : List Entry) (requests : List Request) (brought : List (List ℕ)) (number : ℕ)
    → AllAt past requests brought → AreAt past (brought_at brought number) (waiting_of (slice_get requests number))
at-number past [] [] zero at = tt
at-number past [] [] (suc number) at = tt
at-number past [] (own ∷ brought) number at = absurd at
at-number past (request ∷ requests) [] number at = absurd at
at-number past (request ∷ requests) (own ∷ brought) zero at = at.0
at-number past (request ∷ requests) (own ∷ brought) (suc number) at = at-number past requests brought number at.1

first-taken : (past : List Entry) (places : List ℕ) (items : List Reply) (b : Bool) → AreAt past places items
    → first_or_end b items ≡ taken_at past (found_by (first_or_end b items) (slice_get places 0))
first-taken past [] [] true at = refl
first-taken past [] [] false at = refl
first-taken past [] (item ∷ items) b at = absurd at
first-taken past (place ∷ places) [] b at = absurd at
first-taken past (place ∷ places) (item ∷ items) b at = ap item_or_end (sym at.0)

request-taken : (past : List Entry) (places : List ℕ) (request : Option Request)
    → AreAt past places (waiting_of request)
    → taken_from request ≡ taken_at past (found_by (taken_from request) (slice_get places 0))
request-taken past [] None at = refl
request-taken past (place ∷ places) None at = absurd at
request-taken past places (Some request) at = first-taken past places request.waiting (is_some request.life) at

pub place_found : (taken : TakenValue) (place : Option ℕ) → place_in (found_by taken place) ≡ place
place_found taken (Some place) = refl
place_found (Item reply) None = refl
place_found mux.Pending None = refl
place_found mux.Ended None = refl

-- what a take gives is what the entry at the place that it names brought
pub take_gives : (about : Settings) (past : List Entry) (number : ℕ) → IsLegal about past
    → taken_from (slice_get (state_after about past).requests number)
    ≡ taken_at past (found_by (taken_from (slice_get (state_after about past).requests number))
    (slice_get (brought_at (brought_after about past) number) 0))
take_gives about past number legal =
    request-taken past (brought_at (brought_after about past) number)
    (slice_get (state_after about past).requests number)
    (at-number past (state_after about past).requests (brought_after about past) number (all_placed about past legal))
