-- For private functions of this crate and the invariants of its private types only: entries in pieces, and a core that is the
-- replay of its journal.
use Rattle.std.specs.Prelude.{ℕ, ◌≡◌, ◌+◌, ◌*◌, ◌-◌, ◌≤◌, ◌<◌, List, [], ◌∷◌, ◌++◌, length, reverse, All, Option, None, Some, Result, Ok, Err, is_ok}
use Rattle.std.specs.List.{flat_map}
use Rattle.dns_handle.specs.declared.error.ProtoError.TheVariants as proto
use Rattle.dns_handle.specs.declared.notice.Notice.TheVariants as notices
use Rattle.dns_handle.specs.Errors as seen
use Rattle.dns_handle.specs.Errors.{ErrorValue}
use Rattle.dns_handle.specs.Replies.{error_of}
use Rattle.dns_multiplexer.specs.Events as mux
use Rattle.dns_multiplexer.specs.declared.request_id.RequestId.{RequestId}
use Rattle.dns_multiplexer.specs.Events.{TakenValue}
use Rattle.dns_multiplexer.specs.Machine.{Settings}
use Rattle.dns_multiplexer.specs.Brought.{TracedCore, brought_by_send}
use Rattle.dns_multiplexer.specs.Draws.{Drawn, Plays}
use Rattle.dns_journal.specs.declared.entry.SendRefusal.{SendRefusal}
use Rattle.dns_journal.specs.declared.entry.SendRefusal.TheVariants.{Busy, IdSpaceExhausted, TooLong, QueueFull, NoConnections}
use Rattle.dns_journal.specs.declared.entry.Found.{Found}
use Rattle.dns_journal.specs.declared.entry.Found.TheVariants.{At, Pending, Ended}
use Rattle.dns_journal.specs.declared.exchange_error.ExchangeError.{ExchangeError}
use Rattle.dns_journal.specs.declared.exchange_error.ExchangeError.TheVariants.{Net}
use Rattle.dns_journal.specs.declared.refusal.Refusal.{Refusal}
use Rattle.dns_journal.specs.declared.refusal.Refusal.TheVariants.{HistoryFull, NoMemory}
use Rattle.dns_journal.specs.Entries.{Entry, refusal_of}
use Rattle.dns_journal.specs.Histories.{IsLegal, machine_after, brought_after}
use Rattle.dns_journal.specs.Limits.{most_entries, most_bytes, bytes_in, kept_in}

-- ---- entries in pieces

-- the entries, and how many more take no memory
pub record EntryListValue : Type 0 where
  pub items : List Entry
  pub room : ℕ

abbrev pub same : List Entry → List Entry
same piece = piece

abbrev pub IsNothing : List Entry → Type 0
IsNothing piece = piece ≡ []

-- full pieces, the last one and spare ones, with room for each spare one among the full
pub record IsEntryList (full spare : List (List Entry)) (last : List Entry) (count room spares places capacity : ℕ) : Type 0 where
  pub counted : count ≡ length (flat_map same full ++ last)
  pub few : length last ≤ 1024
  pub left : room + length last ≡ 1024 + 1024 * spares
  pub empty : All IsNothing spare
  pub kept : places + spares ≤ capacity

-- ---- a core and its journal

pub record IsReplay (about : Settings) (journal : List Entry) (core : TracedCore) (bytes room : ℕ) : Type 0 where
  pub legal : IsLegal about (reverse journal)
  pub machine : core.machine ≡ machine_after about (reverse journal)
  pub brought : core.brought ≡ brought_after about (reverse journal)
  pub counted : bytes ≡ bytes_in (reverse journal)
  pub light : bytes ≤ most_bytes
  pub kept : kept_in core.machine ≤ room
  pub fits : length journal + kept_in core.machine ≤ most_entries

-- why there is no room for so many entries more
abbrev pub IsNoRoom : ℕ → Refusal → Type 0
IsNoRoom places HistoryFull = most_entries < places
IsNoRoom places NoMemory = places ≤ most_entries

-- the refusals that a multiplexer's sends have
abbrev pub refusal_in : ErrorValue → Option SendRefusal
refusal_in seen.Busy = Some Busy
refusal_in (seen.Message notices.IdSpaceExhausted) = Some IdSpaceExhausted
refusal_in (seen.Proto proto.TooLong) = Some TooLong
refusal_in (seen.Message notices.SendQueueFull) = Some QueueFull
refusal_in _ = None

-- ---- the ids that are drawn

-- ids, and how many there is memory for
pub record IdListValue : Type 0 where
  pub ids : List ℕ
  pub capacity : ℕ

-- an id is kept where there is memory for it
abbrev pub IsDrawKept : IdListValue → ℕ → IdListValue → Type 0
IsDrawKept old id new = length old.ids < old.capacity → new ≡ record old { ids = old.ids ++ id ∷ [] }

-- ---- a send

-- a send that the multiplexer answered: the ids that it drew, and its reply
pub record IsPlayedSend (draws : List ℕ → Type 0) (old new : TracedCore) (request : Option (List ℕ)) (moment : ℕ)
    (drawn : List ℕ) (reply : Result ℕ ErrorValue) : Type 0 where
  pub walked : draws drawn
  pub played : Plays old.machine.settings old.machine.state new.machine.state
      (mux.Send request moment drawn (is_ok reply) reply)
  pub kept : new.machine ≡ record old.machine { state = new.machine.state }
  pub brought : new.brought ≡ brought_by_send reply old.brought

-- one for which memory ran out: ids may have been drawn
pub record IsUnplayedSend (draws : List ℕ → Type 0) (old new : TracedCore) : Type 0 where
  pub drawn : List ℕ
  pub walked : draws drawn
  pub same : new ≡ old

-- what the caller of a send is answered
abbrev pub IsAnswer : Result ℕ SendRefusal → Result RequestId ExchangeError → Type 0
IsAnswer (Ok number) (Ok id) = id.0 ≡ number
IsAnswer (Err refusal) (Err (Net error)) = error_of error ≡ refusal_of refusal
IsAnswer _ _ = ⊥

-- ---- a take

-- what a take found, by what it gave and the place of the entry that brought it
abbrev pub found_by : TakenValue → Option ℕ → Found
found_by taken (Some place) = At place
found_by mux.Pending None = Pending
found_by _ None = Ended
