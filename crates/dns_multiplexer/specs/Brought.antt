-- Which events brought what waits: of each request the numbers of the events that brought the items that wait for it, in their
-- order. Whoever hands an event to a core numbers it.
use Rattle.std.specs.Prelude.{ℕ, Bool, ◌&&◌, List, [], ◌∷◌, ◌++◌, is_some, slice_get, unwrap_or, Result, Ok, Err, if◌then◌else◌}
use Rattle.dns_handle.specs.Errors.{ErrorValue}
use Rattle.dns_multiplexer.specs.declared.arrival.Arrival.{Arrival}
use Rattle.dns_multiplexer.specs.declared.arrival.Arrival.TheVariants.{Queued}
use Rattle.dns_multiplexer.specs.Draws.{CoreValue}
use Rattle.dns_multiplexer.specs.Machine.{Request, changed_at, has_room}

-- a core: the machine that it is, and the events
pub record TracedCore : Type 0 where
  pub machine : CoreValue
  pub brought : List (List ℕ)

-- the events of a request; a number that was never given out has none
abbrev pub brought_at : List (List ℕ) → ℕ → List ℕ
brought_at brought number = unwrap_or (slice_get brought number) []

abbrev pub with_event : ℕ → List ℕ → List ℕ
with_event event own = own ++ event ∷ []

-- an accepted send is one request more, for which nothing waits
abbrev pub brought_by_send : Result ℕ ErrorValue → List (List ℕ) → List (List ℕ)
brought_by_send (Ok number) brought = brought ++ [] ∷ []
brought_by_send (Err error) brought = brought

-- a response that was queued came by this event
abbrev pub brought_by_arrival : Arrival → ℕ → List (List ℕ) → List (List ℕ)
brought_by_arrival (Queued id) event brought = changed_at id.0 (with_event event) brought
brought_by_arrival _ event brought = brought

-- a request that gets the fault of a close: it is live, and fewer than nine items wait
abbrev pub takes_fault : Request → Bool
takes_fault request = is_some request.life && has_room request.waiting

abbrev pub closed_by : ℕ → Request → List ℕ → List ℕ
closed_by event request own = if takes_fault request then with_event event own else own

-- each fault that a close leaves came by this event
unfoldable pub brought_by_close : ℕ → List Request → List (List ℕ) → List (List ℕ)
brought_by_close event [] brought = brought
brought_by_close event (request ∷ requests) [] = []
brought_by_close event (request ∷ requests) (own ∷ rest) = closed_by event request own ∷ brought_by_close event requests rest
