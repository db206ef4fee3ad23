-- A take by a token is the poll that it stands for.
use Rattle.std.proofs.Common.{ℕ, inl, inr, Result, Ok, Err, IfOk, IfErr}
use Rattle.turns.specs.Turns.{Held, Known}
use Rattle.dns_multiplexer.specs.declared.taken.Taken.{Taken}
use Rattle.dns_multiplexer.specs.declared.taken.Taken.TheVariants as taken
use Rattle.dns_multiplexer.specs.Views.{taken_of}
use Rattle.dns_multiplexer.specs.Machine.{Settings}
use Rattle.dns_journal.specs.declared.exchange_error.ExchangeError.{ExchangeError}
use Rattle.dns_journal.specs.declared.exchange_error.ExchangeError.TheVariants as failed
use Rattle.dns_journal.specs.Entries.{Entry}
use Rattle.dns_journal.specs.Limits.{call_fits}
use Rattle.dns_journal.specs.Calls.{IsTaken}
use Rattle.dns_shared_exchange.specs.Tokens.{IsTurn, IsRefusal}
use Rattle.dns_polled_exchange.specs.Polls.{IsPolled, poll_by}

abbrev Seen : Type 0
Seen = Known Settings Entry

abbrev Value : Type 0
Value = Held Settings Entry

-- a turn of which more is known
pub turn_on : (P Q : Value → Value → Type 0) → ((old new : Value) → P old new → Q old new) → (before now : Seen)
    → IsTurn P before now → IsTurn Q before now
turn_on P Q on before now is = record {
  found = is.found;
  left = is.left;
  begun = is.begun;
  founded = is.founded;
  turned = on is.found is.left is.turned;
  legal = is.legal;
  now_is = is.now_is;
}

pub take_is_polled : (number : ℕ) (took : Result Taken ExchangeError) (before now : Seen)
    → IfOk took (λ t. IsTurn (λ old new. IsTaken old number (taken_of t) new) before now)
    → IfErr took (λ e. IsTurn (λ old new. IsRefusal (call_fits old) e old new) before now)
    → IsTurn (IsPolled number (poll_by took)) before now
take_is_polled number (Ok (taken.Item reply)) before now ok err =
    turn_on (λ old new. IsTaken old number (taken_of (taken.Item reply)) new)
    (IsPolled number (poll_by (Ok (taken.Item reply)))) (λ old new is. inl is) before now ok
take_is_polled number (Ok taken.Pending) before now ok err = ok
take_is_polled number (Ok taken.Ended) before now ok err = ok
take_is_polled number (Err failed.HistoryFull) before now ok err =
    turn_on (λ old new. IsRefusal (call_fits old) failed.HistoryFull old new)
    (IsPolled number (poll_by (Err failed.HistoryFull))) (λ old new is. inr is) before now err
take_is_polled number (Err (failed.Net error)) before now ok err =
    turn_on (λ old new. IsRefusal (call_fits old) (failed.Net error) old new)
    (IsPolled number (poll_by (Err (failed.Net error)))) (λ old new is. absurd is) before now err
take_is_polled number (Err failed.NoMemory) before now ok err =
    turn_on (λ old new. IsRefusal (call_fits old) failed.NoMemory old new)
    (IsPolled number (poll_by (Err failed.NoMemory))) (λ old new is. inr is) before now err
