-- What a poll of a background hands over, one message after another.
use Rattle.std.proofs.Common.{ℕ, ◌+◌, ◌≤◌, ◌<◌, List, [], ◌∷◌, ◌++◌, map, Option, Result, Ok, Err, IfOk, IfErr}
use Rattle.std.proofs.Common.{◌⊎◌, inl, inr, refl, arith}
use Rattle.futures.specs.Runs.{Runs, After, Within}
use Rattle.dns_handle.specs.declared.io_kind.IoKind.{IoKind}
use Rattle.dns_multiplexer.specs.Messages.{SerialMessageValue}
use Rattle.dns_multiplexer.specs.declared.arrival.Arrival.{Arrival}
use Rattle.dns_journal.specs.declared.exchange_error.ExchangeError.{ExchangeError}
use Rattle.dns_journal.specs.Entries.{Arrive}
use Rattle.dns_journal.specs.Limits.{arrival_fits}
use Rattle.dns_journal.specs.Calls.{IsAdded}
use Rattle.dns_shared_exchange.specs.Tokens.{IsTurn, IsRefusal, IsUnbegun}
use Rattle.dns_polled_exchange.specs.Backgrounds.{Item, Seen, IsHanded, AreHanded, EndsBy, GoesOn, IsOver, CameOf}
use Rattle.dns_polled_exchange.specs.declared.background.Came.{Came}
use Rattle.dns_polled_exchange.specs.declared.background.Came.TheVariants.{Waits, Many, Ends}

-- nothing came
pub none_came : (old new : Runs Item) (most : ℕ) (seen : Seen) → Within old new → GoesOn old new most seen seen
unfolding AreHanded
none_came old new most seen within = record { messages = []; few = omega arith; came = within; handed = refl }

-- the end came at once
pub ends_now : (old : Runs Item) (most : ℕ) (seen : Seen) (last : Option Item) (fault : IoKind) → 0 < most → old [] last
    → EndsBy last fault → IsOver old most seen seen fault
unfolding AreHanded
ends_now old most seen last fault some came ends =
    record { messages = []; few = some; last = last; came = came; handed = refl; ends = ends }

-- a message came and was handed over
pub record IsMore (old mid : Runs Item) (most less : ℕ) (before seen : Seen) : Type 0 where
  pub message : SerialMessageValue
  pub fits : less + 1 ≤ most
  pub after : After old (Ok message) mid
  pub handed : IsHanded message.bytes before seen

module _ {old mid : Runs Item} {most less : ℕ} {before seen : Seen} (more : IsMore old mid most less before seen) where
  more-goes : (new : Runs Item) (now : Seen) → GoesOn mid new less seen now → GoesOn old new most before now
  unfolding AreHanded
  more-goes new now rest = record {
    messages = more.message ∷ rest.messages;
    few = omega (arith, more.fits, rest.few);
    came = λ items last may. more.after (map Ok rest.messages ++ items) last (rest.came items last may);
    handed = (seen, more.handed, rest.handed);
  }

  more-over : (now : Seen) (fault : IoKind) → IsOver mid less seen now fault → IsOver old most before now fault
  unfolding AreHanded
  more-over now fault rest = record {
    messages = more.message ∷ rest.messages;
    few = omega (arith, more.fits, rest.few);
    last = rest.last;
    came = more.after (map Ok rest.messages) rest.last rest.came;
    handed = (seen, more.handed, rest.handed);
    ends = rest.ends;
  }

  -- and then came what came of the rest
  pub more_came : (new : Runs Item) (now : Seen) (came : Came) → CameOf mid new less seen now came
      → CameOf old new most before now came
  more_came new now (Ends fault) rest = more-over now fault rest
  more_came new now Waits rest = more-goes new now rest
  more_came new now Many rest = more-goes new now rest

-- ---- one call

-- an arrival that was answered or refused
pub handed_by : (bytes : List ℕ) (came : Result Arrival ExchangeError) (before now : Seen)
    → IfOk came (λ reply. IsTurn (λ old new. IsAdded (arrival_fits bytes old) old (Arrive bytes reply) new) before now)
    → IfErr came (λ error. IsUnbegun before now error
    ⊎ IsTurn (λ old new. IsRefusal (arrival_fits bytes old) error old new) before now)
    → IsHanded bytes before now
handed_by bytes (Ok reply) before now ok err = inl (reply, ok)
handed_by bytes (Err error) before now ok err = inr (error, err)
