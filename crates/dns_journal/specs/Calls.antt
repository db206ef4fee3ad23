-- What a call leaves in a journal, and what a refused one leaves.
use Rattle.std.specs.Prelude.{ℕ, ◌≡◌, ◌≤◌, Bool, true, false, List, [], ◌∷◌, ◌++◌, reverse, slice_get, Option, None, Some, Result, Ok, Err}
use Rattle.turns.specs.Turns.{Held}
use Rattle.dns_handle.specs.declared.error.NetError.{NetError}
use Rattle.dns_handle.specs.declared.error.NetError.TheVariants as net
use Rattle.dns_handle.specs.declared.notice.Notice.TheVariants as notices
use Rattle.dns_handle.specs.Errors.{ErrorValue}
use Rattle.dns_handle.specs.Replies.{error_of}
use Rattle.dns_multiplexer.specs.Messages.{SerialMessageValue}
use Rattle.dns_multiplexer.specs.Events.{TakenValue}
use Rattle.dns_multiplexer.specs.Machine.{Settings}
use Rattle.dns_journal.specs.declared.entry.Found.{Found}
use Rattle.dns_journal.specs.declared.exchange_error.ExchangeError.{ExchangeError}
use Rattle.dns_journal.specs.declared.exchange_error.ExchangeError.TheVariants as failed
use Rattle.dns_journal.specs.declared.recorded_draws.RecordedDraws.{RecordedDraws}
use Rattle.dns_journal.specs.declared.refusal.Refusal.{Refusal}
use Rattle.dns_journal.specs.declared.refusal.Refusal.TheVariants.{HistoryFull, NoMemory}
use Rattle.dns_journal.specs.Entries.{Entry, Send, Take, Pop}
use Rattle.dns_journal.specs.Histories.{IsLegal, state_after, taken_at}
use Rattle.dns_journal.specs.Limits.{most_entries, most_bytes, bytes_in, places_in, send_fits, call_fits}

-- a journal that can be, within its limits
pub record IsJournal (held : Held Settings Entry) : Type 0 where
  pub legal : IsLegal held.about (reverse held.journal)
  pub places : places_in held.about (reverse held.journal) ≤ most_entries
  pub bytes : bytes_in (reverse held.journal) ≤ most_bytes

abbrev pub with_entry : Entry → Held Settings Entry → Held Settings Entry
with_entry e held = record held { journal = held.journal ++ e ∷ [] }

-- a call that had room left one entry
pub record IsAdded (fits : Bool) (old : Held Settings Entry) (e : Entry) (new : Held Settings Entry) : Type 0 where
  pub fitted : fits ≡ true
  pub added : new ≡ with_entry e old

-- a refused call changes nothing, and the history is full exactly where there is no room
abbrev pub IsRefused : Bool → Held Settings Entry → Held Settings Entry → Refusal → Type 0
IsRefused fits old new HistoryFull = (fits ≡ false) × (new ≡ old)
IsRefused fits old new NoMemory = (fits ≡ true) × (new ≡ old)

-- a take: what it found, and the item that this names
pub record IsTaken (old : Held Settings Entry) (number : ℕ) (taken : TakenValue) (new : Held Settings Entry) : Type 0 where
  pub found : Found
  pub added : IsAdded (call_fits old) old (Take number found) new
  pub gives : taken ≡ taken_at (reverse old.journal) found

-- a message is taken out exactly where one waits, and is the first; else nothing changes
abbrev pub IsPopped : Held Settings Entry → Held Settings Entry → Option SerialMessageValue → Type 0
IsPopped old new None = ((state_after old.about (reverse old.journal)).outbound ≡ []) × (new ≡ old)
IsPopped old new (Some message) =
    (Some message ≡ slice_get (state_after old.about (reverse old.journal)).outbound 0) × (new ≡ with_entry Pop old)

-- a send that had room: the ids that were drawn for it, and its reply
pub record IsSent (draws : List ℕ → Type 0) (old : Held Settings Entry) (request : Option (List ℕ)) (moment : ℕ)
    (reply : Result ℕ ErrorValue) (new : Held Settings Entry) : Type 0 where
  pub drawn : List ℕ
  pub walked : draws drawn
  pub added : IsAdded (send_fits request old) old (Send request moment drawn reply) new

-- ids were drawn, and there was room; but no entry was left
pub record IsUnsent (draws : List ℕ → Type 0) (fits : Bool) (old new : Held Settings Entry) : Type 0 where
  pub drawn : List ℕ
  pub walked : draws drawn
  pub fitted : fits ≡ true
  pub same : new ≡ old

-- a send that has no number: a full history comes before all else and draws nothing, an error of the multiplexer leaves its
-- entry, and where memory runs out ids that were drawn stay drawn
abbrev pub IsSendRefused : (List ℕ → Type 0) → Held Settings Entry → Option (List ℕ) → ℕ → Held Settings Entry
    → ExchangeError → Type 0
IsSendRefused draws old request moment new failed.HistoryFull =
    (send_fits request old ≡ false) × (new ≡ old) × draws []
IsSendRefused draws old request moment new (failed.Net error) =
    IsSent draws old request moment (Err (error_of error)) new
IsSendRefused draws old request moment new failed.NoMemory = IsUnsent draws (send_fits request old) old new

-- a refusal as an error of an exchange
abbrev pub refused_by : Refusal → ExchangeError
refused_by HistoryFull = failed.HistoryFull
refused_by NoMemory = failed.NoMemory

-- the same as an error of a request
abbrev pub refused_as : ExchangeError → NetError
refused_as failed.HistoryFull = net.Message notices.HistoryFull
refused_as (failed.Net error) = error
refused_as failed.NoMemory = net.NoMemory

-- the generator whose ids are kept
abbrev pub draws_of : {R : Type 0} → RecordedDraws R → R
draws_of recorded = recorded.draws
