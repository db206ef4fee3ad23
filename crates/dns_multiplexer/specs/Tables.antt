-- For private functions of this crate and the invariants of its private types only: requests in two maps, by their ids and by
-- their numbers.
use Rattle.std.specs.Prelude.{ℕ, ◌≡◌, ◌<◌, ◌≤◌, ◌==◌, ◌+◌, ◌⊎◌, nat_lt, Bool, false, List, [], ◌∷◌, ◌++◌, map, drop, slice_get, Option, None, Some, Ok, if◌then◌else◌}
use Rattle.std.specs.List.{range_with_len}
use Rattle.std.specs.Option.{option_map}
use Rattle.dns_model.specs.SoundAnswers.{ResponseValue}
use Rattle.dns_handle.specs.declared.io_kind.IoKind.{IoKind}
use Rattle.dns_handle.specs.Errors.{Reply}
use Rattle.dns_multiplexer.specs.declared.request_table.Holder.{Holder}
use Rattle.dns_multiplexer.specs.declared.arrival.Arrival.{Arrival}
use Rattle.dns_multiplexer.specs.declared.arrival.Arrival.TheVariants.{Queued}
use Rattle.dns_multiplexer.specs.Machine.{Life, Request, has_room, changed_at, with_item, closed}
use Rattle.dns_multiplexer.specs.Brought.{with_event, brought_by_close}

-- an item, with the number of the event that brought it
pub record BroughtValue : Type 0 where
  pub item : Reply
  pub event : ℕ

-- the items that wait for a request, and the events that brought them, with its id
pub record ItemQueueValue : Type 0 where
  pub id : ℕ
  pub items : List Reply
  pub events : List ℕ

-- the requests, and of each the events that brought what waits for it
pub record TableValue : Type 0 where
  pub requests : List Request
  pub brought : List (List ℕ)

-- the live request with an id, if it is the one of a number
abbrev pub life_under : ℕ → ℕ → Option Holder → Option Life
life_under id number None = None
life_under id number (Some holder) =
    if holder.number == number then Some (record { id = id; moment = holder.moment }) else None

-- a request that is no longer kept is over, and nothing waits
abbrev pub request_in : (ℕ → Option Holder) → ℕ → Option ItemQueueValue → Request
request_in holders number None = record { life = None; waiting = [] }
request_in holders number (Some queue) =
    record { life = life_under queue.id number (holders queue.id); waiting = queue.items }

abbrev pub request_at : (ℕ → Option Holder) → (ℕ → Option ItemQueueValue) → ℕ → Request
request_at holders queues number = request_in holders number (queues number)

-- the requests of two maps, in the order of their numbers
abbrev pub requests_of : (ℕ → Option Holder) → (ℕ → Option ItemQueueValue) → ℕ → List Request
requests_of holders queues count = map (request_at holders queues) (range_with_len 0 count)

abbrev pub events_in : Option ItemQueueValue → List ℕ
events_in None = []
events_in (Some queue) = queue.events

-- the events of each request, in the order of their numbers
abbrev pub events_of : (ℕ → Option ItemQueueValue) → ℕ → List (List ℕ)
events_of queues count = map (λ number. events_in (queues number)) (range_with_len 0 count)

abbrev pub id_of_queue : Option ItemQueueValue → Option ℕ
id_of_queue queue = option_map (λ q. q.id) queue

-- each live request has a queue under its number, with its id, and there is no queue for a number that wasn't given out
pub record IsTable (holders : ℕ → Option Holder) (queues : ℕ → Option ItemQueueValue) (count : ℕ) : Type 0 where
  pub held : (id : ℕ) (holder : Holder) → holders id ≡ Some holder
      → (holder.number < count) × (id_of_queue (queues holder.number) ≡ Some id)
  pub known : (number : ℕ) → count ≤ number → queues number ≡ None

-- the queue of a number is changed, and each other stays
abbrev pub QueueChanged : (ℕ → Option ItemQueueValue) → (ℕ → Option ItemQueueValue) → ℕ
    → (ItemQueueValue → ItemQueueValue) → Type 0
QueueChanged old new number change = (n : ℕ) → new n ≡ (if number == n then option_map change (old n) else old n)

-- ---- what one call changes

-- a live request that isn't too old
abbrev pub still_held : ℕ → ℕ → Option Holder → Option Holder
still_held timeout now None = None
still_held timeout now (Some holder) = if nat_lt now (holder.moment + timeout) then Some holder else None

abbrev pub takes_item : Option ItemQueueValue → Bool
takes_item None = false
takes_item (Some queue) = has_room queue.items

abbrev pub pushed : Reply → ℕ → ItemQueueValue → ItemQueueValue
pushed item event queue =
    if has_room queue.items then record queue { items = queue.items ++ item ∷ []; events = with_event event queue.events } else queue

abbrev pub first_item : Option ItemQueueValue → Option Reply
first_item None = None
first_item (Some queue) = slice_get queue.items 0

abbrev pub first_event : Option ItemQueueValue → Option ℕ
first_event None = None
first_event (Some queue) = slice_get queue.events 0

abbrev pub without_item : ItemQueueValue → ItemQueueValue
without_item queue = record queue { items = drop 1 queue.items; events = drop 1 queue.events }

-- a response that was queued waits for its request
abbrev pub after_queued : Arrival → ResponseValue → List Request → List Request
after_queued (Queued id) response requests = changed_at id.0 (with_item (Ok response)) requests
after_queued _ response requests = requests

-- a request under a new number holds the id, and nothing waits for it
pub record IsAdded (holders : ℕ → Option Holder) (queues : ℕ → Option ItemQueueValue) (id : ℕ) (holder : Holder)
    (new_holders : ℕ → Option Holder) (new_queues : ℕ → Option ItemQueueValue) : Type 0 where
  pub held : (i : ℕ) → new_holders i ≡ (if id == i then Some holder else holders i)
  pub queued : (n : ℕ) → new_queues n ≡ (if holder.number == n then Some (record { id = id; items = []; events = [] }) else queues n)

-- nothing has changed, but that nothing waits under the number
pub record IsUnadded (holders : ℕ → Option Holder) (queues : ℕ → Option ItemQueueValue) (number : ℕ)
    (new_holders : ℕ → Option Holder) (new_queues : ℕ → Option ItemQueueValue) : Type 0 where
  pub held : (i : ℕ) → new_holders i ≡ holders i
  pub queued : (n : ℕ) → new_queues n ≡ (if number == n then new_queues n else queues n)
  pub gone : (new_queues number ≡ queues number) ⊎ (new_queues number ≡ None)

-- no request is live any more, and each that was has the fault, where it had room
pub record FailsAll (fault : IoKind) (event : ℕ) (holders : ℕ → Option Holder) (queues : ℕ → Option ItemQueueValue)
    (new_holders : ℕ → Option Holder) (new_queues : ℕ → Option ItemQueueValue) : Type 0 where
  pub table : (count : ℕ) → IsTable holders queues count → IsTable new_holders new_queues count
  pub closed : (count : ℕ) → IsTable holders queues count
      → requests_of new_holders new_queues count ≡ map (closed fault) (requests_of holders queues count)
  pub brought : (count : ℕ) → IsTable holders queues count
      → events_of new_queues count ≡ brought_by_close event (requests_of holders queues count) (events_of queues count)
