-- Histories that a multiplexer can have, and the law that its state is what the history says.
use Rattle.std.specs.Prelude.{ℕ, ◌≡◌, List, [], ◌∷◌, Option, None, Some, is_some, slice_get}
use Rattle.std.specs.Option.{option_map}
use Rattle.dns_multiplexer.specs.Messages.{SerialMessageValue}
use Rattle.dns_multiplexer.specs.Events.{Event}
use Rattle.dns_multiplexer.specs.History.{live, live_id, waiting, outbound}
use Rattle.dns_multiplexer.specs.Machine.{Settings, Life, Request, State, IsAnswered, after, waiting_of, with_maximum}

-- the state after a history, the last event first, from a queue in which messages wait
unfoldable pub replay : Settings → List SerialMessageValue → List Event → State
replay settings start [] = record { requests = []; outbound = start }
replay settings start (e ∷ before) = after settings (replay settings start before) e

-- an event is answered as the state says, with so many live requests at most as are set when it comes
pub record IsAnsweredThen (settings : Settings) (state : State) (e : Event) : Type 0 where
  pub maximum : ℕ
  pub answered : IsAnswered (with_maximum maximum settings) state e

-- each event is answered as the state before it says
unfoldable pub IsPlayed : Settings → List SerialMessageValue → List Event → Type 0
IsPlayed settings start [] = Unit {0}
IsPlayed settings start (e ∷ before) =
    IsPlayed settings start before × IsAnsweredThen settings (replay settings start before) e

abbrev pub life_of : Option Request → Option Life
life_of None = None
life_of (Some request) = request.life

abbrev pub life_at : State → ℕ → Option Life
life_at state number = life_of (slice_get state.requests number)

abbrev pub id_at : State → ℕ → Option ℕ
id_at state number = option_map (λ life. life.id) (life_at state number)

-- the state is what the history says, and no two live requests have one id
pub record IsToldBy (settings : Settings) (start : List SerialMessageValue) (history : List Event)
    (state : State) : Type 0 where
  pub live : (number : ℕ) → is_some (life_at state number) ≡ live settings.timeout history number
  pub id : (number : ℕ) → id_at state number ≡ live_id settings.timeout history number
  pub waiting : (number : ℕ) → waiting_of (slice_get state.requests number) ≡ waiting settings.timeout history number
  pub outbound : state.outbound ≡ outbound settings.server start history
  pub apart : (id m n : ℕ) → live_id settings.timeout history m ≡ Some id → live_id settings.timeout history n ≡ Some id → m ≡ n
