-- What a poll for a request of an exchange that threads share is: one take of it (RFC 7766, 6.2.1).
use Rattle.std.specs.Prelude.{ℕ, ◌⊎◌, Option, None, Some, Result, Ok, Err}
use Rattle.futures.specs.declared.task.Poll.{Poll}
use Rattle.futures.specs.declared.task.Poll.TheVariants.{Ready, Pending}
use Rattle.turns.specs.Turns.{Held}
use Rattle.dns_model.specs.SoundAnswers.{ResponseValue}
use Rattle.dns_handle.specs.declared.error.NetError.{NetError}
use Rattle.dns_handle.specs.declared.notice.Notice.TheVariants as notices
use Rattle.dns_handle.specs.Errors as seen
use Rattle.dns_handle.specs.Errors.{Reply}
use Rattle.dns_handle.specs.Replies.{reply_of}
use Rattle.dns_multiplexer.specs.declared.taken.Taken.{Taken}
use Rattle.dns_multiplexer.specs.declared.taken.Taken.TheVariants as taken
use Rattle.dns_multiplexer.specs.Events as mux
use Rattle.dns_multiplexer.specs.Machine.{Settings}
use Rattle.dns_journal.specs.declared.exchange_error.ExchangeError.{ExchangeError}
use Rattle.dns_journal.specs.declared.exchange_error.ExchangeError.TheVariants as failed
use Rattle.dns_journal.specs.Entries.{Entry}
use Rattle.dns_journal.specs.Limits.{call_fits}
use Rattle.dns_journal.specs.Calls.{IsTaken, refused_as}
use Rattle.dns_shared_exchange.specs.Tokens.{TokenValue, IsRefusal}
use Rattle.dns_polled_exchange.specs.declared.exchange_send.DnsExchangeSend.{DnsExchangeSend}

-- the number of its request
abbrev pub number_of : DnsExchangeSend → ℕ
number_of send = send.id.0

-- a stream: its token, and the number of its request
pub record StreamValue : Type 0 where
  pub token : TokenValue
  pub number : ℕ

-- an error that stands for a refused take, which changed nothing
abbrev pub IsRefusedItem : Reply → Held Settings Entry → Held Settings Entry → Type 0
IsRefusedItem (Err (seen.Message notices.HistoryFull)) old new = IsRefusal (call_fits old) failed.HistoryFull old new
IsRefusedItem (Err seen.NoMemory) old new = IsRefusal (call_fits old) failed.NoMemory old new
IsRefusedItem _ old new = ⊥

-- a poll: nothing waits, nothing is to come, or an item, which the take gave or which says why it was refused
abbrev pub IsPolled : ℕ → Poll (Option (Result ResponseValue NetError)) → Held Settings Entry → Held Settings Entry → Type 0
IsPolled number Pending old new = IsTaken old number mux.Pending new
IsPolled number (Ready None) old new = IsTaken old number mux.Ended new
IsPolled number (Ready (Some reply)) old new =
    IsTaken old number (mux.Item (reply_of reply)) new ⊎ IsRefusedItem (reply_of reply) old new

-- ---- for private functions only

-- the poll that a take stands for
abbrev pub poll_by : Result Taken ExchangeError → Poll (Option (Result ResponseValue NetError))
poll_by (Ok (taken.Item reply)) = Ready (Some reply)
poll_by (Ok taken.Pending) = Pending
poll_by (Ok taken.Ended) = Ready None
poll_by (Err error) = Ready (Some (Err (refused_as error)))
