-- How messages that come over a connection are handed over to an exchange that threads share (RFC 7766, 6.2.1).
use Rattle.std.specs.Prelude.{ℕ, ◌≡◌, ◌≤◌, ◌<◌, ◌⊎◌, Bool, true, false, List, [], ◌∷◌, ◌++◌, map, length, Option, None, Some, Result, Ok, Err}
use Rattle.futures.specs.declared.task.Poll.{Poll}
use Rattle.futures.specs.declared.task.Poll.TheVariants.{Ready, Pending}
use Rattle.futures.specs.Runs.{Runs}
use Rattle.turns.specs.Turns.{Known}
use Rattle.dns_handle.specs.declared.error.NetError.{NetError}
use Rattle.dns_handle.specs.declared.io_kind.IoKind.{IoKind}
use Rattle.dns_handle.specs.declared.io_kind.IoKind.TheVariants.{UnexpectedEof}
use Rattle.dns_multiplexer.specs.declared.arrival.Arrival.{Arrival}
use Rattle.dns_multiplexer.specs.Messages.{SerialMessageValue}
use Rattle.dns_multiplexer.specs.Machine.{Settings}
use Rattle.dns_journal.specs.declared.exchange_error.ExchangeError.{ExchangeError}
use Rattle.dns_journal.specs.Entries.{Entry, Arrive, Close}
use Rattle.dns_journal.specs.Limits.{arrival_fits, close_fits, was_closed}
use Rattle.dns_journal.specs.Calls.{IsAdded, refused_as}
use Rattle.dns_shared_exchange.specs.Tokens.{IsTurn, IsRefusal, IsUnbegun}
use Rattle.dns_polled_exchange.specs.declared.background.Came.{Came}
use Rattle.dns_polled_exchange.specs.declared.background.Came.TheVariants.{Waits, Ends}
use Rattle.dns_polled_exchange.specs.declared.background.DnsExchangeBackground.{DnsExchangeBackground}

-- what such streams give: a message, or the fault of the connection
abbrev pub Item : Type 0
Item = Result SerialMessageValue IoKind

-- what a token knows
abbrev pub Seen : Type 0
Seen = Known Settings Entry

abbrev pub stream_of : {S : Type 0} → DnsExchangeBackground S → S
stream_of background = background.stream

abbrev pub has_ended : {S : Type 0} → DnsExchangeBackground S → Bool
has_ended background = background.is_ended

-- ---- one message

-- bytes are handed over: they are answered, or refused and dropped
abbrev pub IsHanded : List ℕ → Seen → Seen → Type 0
IsHanded bytes before now =
    ((reply : Arrival) × IsTurn (λ old new. IsAdded (arrival_fits bytes old) old (Arrive bytes reply) new) before now)
    ⊎ ((error : ExchangeError) × (IsUnbegun before now error
    ⊎ IsTurn (λ old new. IsRefusal (arrival_fits bytes old) error old new) before now))

-- messages are handed over in turn
unfoldable pub AreHanded : List SerialMessageValue → Seen → Seen → Type 0
AreHanded [] before now = now ≡ before
AreHanded (message ∷ messages) before now = (mid : Seen) × IsHanded message.bytes before mid × AreHanded messages mid now

-- ---- the end

-- the fault by which the exchange is closed
abbrev pub EndsBy : Option Item → IoKind → Type 0
EndsBy None fault = fault ≡ UnexpectedEof
EndsBy (Some (Err kind)) fault = fault ≡ kind
EndsBy (Some (Ok message)) fault = ⊥

-- a close, or why it was refused: the exchange was closed before
abbrev pub IsClosedBy : IoKind → Result (Unit {0}) NetError → Seen → Seen → Type 0
IsClosedBy fault (Ok done) before now =
    IsTurn (λ old new. IsAdded (close_fits old) old (Close fault) new) before now
IsClosedBy fault (Err error) before now = (refusal : ExchangeError) × (error ≡ refused_as refusal)
    × IsTurn (λ old new. (was_closed old ≡ true) × IsRefusal (close_fits old) refusal old new) before now

-- ---- one poll

-- messages came, so many at most, and were handed over, and more may come
pub record GoesOn (old new : Runs Item) (most : ℕ) (before now : Seen) : Type 0 where
  pub messages : List SerialMessageValue
  pub few : length messages ≤ most
  pub came : (items : List Item) (last : Option Item) → new items last → old (map Ok messages ++ items) last
  pub handed : AreHanded messages before now

-- fewer messages came and were handed over, and then came the end
pub record IsOver (old : Runs Item) (most : ℕ) (before now : Seen) (fault : IoKind) : Type 0 where
  pub messages : List SerialMessageValue
  pub few : length messages < most
  pub last : Option Item
  pub came : old (map Ok messages) last
  pub handed : AreHanded messages before now
  pub ends : EndsBy last fault

-- then the exchange is closed
pub record IsShut (old : Runs Item) (before now : Seen) (result : Result (Unit {0}) NetError) : Type 0 where
  pub mid : Seen
  pub fault : IoKind
  pub over : IsOver old 100 before mid fault
  pub closed : IsClosedBy fault result mid now

-- after the end nothing is done
abbrev pub PollsOn : Runs Item → Runs Item → (was is : Bool) → Seen → Seen → Poll (Result (Unit {0}) NetError) → Type 0
PollsOn old new true is before now result = (result ≡ Ready (Ok tt)) × (is ≡ true) × (now ≡ before)
PollsOn old new false is before now Pending = (is ≡ false) × GoesOn old new 100 before now
PollsOn old new false is before now (Ready result) = (is ≡ true) × IsShut old before now result

-- ---- for private functions only

abbrev pub CameOf : Runs Item → Runs Item → ℕ → Seen → Seen → Came → Type 0
CameOf old new most before now (Ends fault) = IsOver old most before now fault
CameOf old new most before now _ = GoesOn old new most before now

abbrev pub GoesStill : Came → Type 0 → Type 0
GoesStill (Ends fault) P = Unit {0}
GoesStill _ P = P

abbrev pub WaitsStill : Came → Type 0 → Type 0
WaitsStill Waits P = P
WaitsStill _ P = Unit {0}
