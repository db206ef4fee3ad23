-- Ids that are drawn one after another from a generator that is handed in.
use Rattle.std.specs.Prelude.{ℕ, ◌≡◌, ◌⊎◌, ◌^◌, pos, Bool, true, false, List, [], ◌∷◌, Option, None, Some, Result, Ok, Err, is_ok, IsErr, IsSome, length, ◌<◌}
use Rattle.std.specs.Result.{result_ok}
use Rattle.rand_core.specs.Stream.{Stream, next_u32}
use Rattle.rand.specs.Draw.{Gives, next_u16}
use Rattle.rand.specs.contracts.rngs.StdRngSeedableRng.TheImpl as seeding
use Rattle.rand.specs.Uniform.{DrawsBetween, canon}
use Rattle.dns_handle.specs.Errors as seen
use Rattle.dns_handle.specs.Errors.{ErrorValue}
use Rattle.dns_message.specs.declared.decode_error.DecodeError.{DecodeError}
use Rattle.dns_message.specs.declared.decode_error.DecodeKind.{DecodeKind}
use Rattle.dns_message.specs.declared.decode_error.DecodeKind.TheVariants as kinds
use Rattle.dns_message.specs.WrittenAs.{encoded}
use Rattle.dns_handle.specs.declared.error.NetError.{NetError}
use Rattle.dns_handle.specs.declared.error.NetError.TheVariants as rust
use Rattle.dns_handle.specs.declared.error.ProtoError.TheVariants.{TooLong}
use Rattle.dns_handle.specs.Requests.{RequestValue}
use Rattle.dns_multiplexer.specs.declared.arrival.Arrival.{Arrival}
use Rattle.dns_multiplexer.specs.declared.arrival.Arrival.TheVariants.{Undecodable}
use Rattle.dns_multiplexer.specs.Messages.{SerialMessageValue, with_id}
use Rattle.dns_multiplexer.specs.declared.draws.RandDraws.{RandDraws}
use Rattle.dns_multiplexer.specs.Events.{Event, Send, Pop, last_drawn}
use Rattle.dns_multiplexer.specs.Machine.{Settings, State, IsAnswered, after, are_drawn, queue_reply}

-- each id is drawn from where the draw before it left the generator
abbrev pub Drawn : {R : Type 0} → (R → ℕ → R → Type 0) → R → List ℕ → R → Type 0
Drawn draw from [] to = from ≡ to
Drawn {R} draw from (id ∷ ids) to = (mid : R) × draw from id mid × Drawn draw mid ids to

-- the ids and ports that are left
pub record ListDrawsValue : Type 0 where
  pub ids : List ℕ
  pub ports : List ℕ

-- the generator of a seed
abbrev pub seeded_draws : ℕ → RandDraws
seeded_draws seed = record { generator = seeding.ghosts.of_seed (seeding.ghosts.seed_of_u64 seed) }

-- numbers in a list, of which the first is drawn next; none left gives the number in their place
abbrev pub first_or : ℕ → List ℕ → ℕ
first_or other [] = other
first_or other (n ∷ ns) = n

-- a call is answered as the state says, and leaves the machine's next state
pub record Plays (settings : Settings) (old new : State) (e : Event) : Type 0 where
  pub answered : IsAnswered settings old e
  pub moved : new ≡ after settings old e

-- a send: the ids that it drew, and the event that it was; where memory ran out it was none, and the ids stay drawn
pub record IsSend (draws : List ℕ → Type 0) (settings : Settings) (old new : State)
    (request : Option (List ℕ)) (moment : ℕ) (reply : Result ℕ ErrorValue) : Type 0 where
  pub drawn : List ℕ
  pub walked : draws drawn
  pub played : ((reply ≡ Err seen.NoMemory) × (new ≡ old))
      ⊎ Plays settings old new (Send request moment drawn (is_ok reply) reply)

-- a message was taken out, exactly where one waits
abbrev pub IsPop : Settings → State → State → Option SerialMessageValue → Type 0
IsPop settings old new None = (old.outbound ≡ []) × (new ≡ old)
IsPop settings old new (Some message) = Plays settings old new (Pop message)

-- a request as it is encoded under its own id; None where that is too long
abbrev pub request_bytes : RequestValue → Option (List ℕ)
request_bytes request = result_ok (encoded request.message)

-- a multiplexer without its generator
pub record CoreValue : Type 0 where
  pub settings : Settings
  pub state : State
  pub is_shutdown : Bool

-- ---- for private functions only

-- the last of some ids, where it is free; none where it isn't, or nothing was drawn
abbrev pub IsLastFree : (ℕ → Bool) → List ℕ → Option ℕ → Type 0
IsLastFree is_taken drawn None = (drawn ≡ []) ⊎ (is_taken (last_drawn drawn) ≡ true)
IsLastFree is_taken drawn (Some id) = (last_drawn drawn ≡ id) × (is_taken id ≡ false)

-- the ids that were drawn, and the last one, where it is free
pub record IsFreeDraw {R : Type 0} (draw : R → ℕ → R → Type 0) (from to : R) (left : ℕ)
    (is_taken : ℕ → Bool) (found : Option ℕ) : Type 0 where
  pub drawn : List ℕ
  pub walked : Drawn draw from drawn to
  pub fits : are_drawn left is_taken drawn ≡ true
  pub last : IsLastFree is_taken drawn found
  pub some : IsSome found → 0 < length drawn

-- a request that was put into the queue under an id, or why it wasn't
abbrev pub IsPlaced : Settings → State → State → ℕ → Option (List ℕ) → ℕ → Result ℕ ErrorValue → Type 0
IsPlaced settings old new id request moment reply =
    ((reply ≡ Err seen.NoMemory) × (new ≡ old))
    ⊎ ((reply ≡ queue_reply settings old request)
    × (new ≡ after settings old (Send request moment (id ∷ []) (is_ok reply) reply)))

-- a request's bytes under an id, or that it is too long
abbrev pub IsEncoded : ℕ → Option (List ℕ) → Result (List ℕ) NetError → Type 0
IsEncoded id None (Ok bytes) = ⊥
IsEncoded id (Some request) (Ok bytes) = bytes ≡ with_id id request
IsEncoded id request (Err error) = (error ≡ rust.NoMemory) ⊎ ((request ≡ None) × (error ≡ rust.Proto TooLong))

abbrev pub unreadable_by : {E : Type 0} → DecodeKind → DecodeError → Result Arrival E → Type 0
unreadable_by kinds.NoMemory error told = IsErr told
unreadable_by _ error told = told ≡ Ok (Undecodable error)

-- bytes that are no message; where memory ran out that isn't known
abbrev pub IsUnreadable : {E : Type 0} → DecodeError → Result Arrival E → Type 0
IsUnreadable error told = unreadable_by error.kind error told

-- a port from 1024 to 65535, drawn from a stream of random words as `rand` draws from a range
abbrev pub IsPortDraw : Stream → ℕ → Stream → Type 0
IsPortDraw before port after =
    DrawsBetween pos 65536 (Gives next_u16) (canon (2 ^ 32) next_u32) (pos 1024) (pos 65536) before port after
