-- What the callers of one exchange know: each has a token, which knows the journal that was seen with it and its own calls, each with
-- its place in the journal.
use Rattle.std.specs.Prelude.{ℕ, ◌≡◌, Bool, true, false, List, [], None, Some}
use Rattle.atomic_table.specs.Seated.{TableId}
use Rattle.turns.specs.Turns.{Held, Known, Begins, Agrees, IsSound, taken, given}
use Rattle.dns_multiplexer.specs.Machine.{Settings}
use Rattle.dns_journal.specs.Entries.{Entry}
use Rattle.dns_journal.specs.declared.exchange_error.ExchangeError.{ExchangeError}
use Rattle.dns_journal.specs.declared.exchange_error.ExchangeError.TheVariants.{HistoryFull, Net, NoMemory}
use Rattle.dns_journal.specs.Calls.{IsJournal}

-- which exchange it is a token of, and what it knows
pub record TokenValue : Type 0 where
  pub line : TableId
  pub known : Known Settings Entry

-- what every token knows: the settings of the exchange, and a journal that can be, in which its own calls stand, each once, in order
pub record IsKnown (known : Known Settings Entry) : Type 0 where
  pub settings : Settings
  pub founded : known.about ≡ Some settings
  pub journal : IsJournal (record { about = settings; journal = known.journal })
  pub sound : IsSound known

-- the first token, with which nothing was done
abbrev pub first_known : Settings → Known Settings Entry
first_known settings = record {
  about = Some settings;
  is_out = false;
  journal = [];
  own = [];
  told = [];
  heard = [];
  heard_about = None;
}

-- a turn: the journal that it found begins with the one that the token had seen. The token has seen then what the turn left, and what
-- this has behind what was found is its own
pub record IsTurn (turn : Held Settings Entry → Held Settings Entry → Type 0) (before now : Known Settings Entry) : Type 0 where
  pub found : Held Settings Entry
  pub left : Held Settings Entry
  pub begun : Begins found.journal before.journal
  pub founded : Agrees before.about (Some found.about)
  pub turned : turn found left
  pub legal : IsJournal left
  pub now_is : now ≡ given (taken before found) left

-- a refused call changes nothing, and the history is full exactly where there is no room; no error of the multiplexer comes
abbrev pub IsRefusal : Bool → ExchangeError → Held Settings Entry → Held Settings Entry → Type 0
IsRefusal fits HistoryFull old new = (fits ≡ false) × (new ≡ old)
IsRefusal fits NoMemory old new = (fits ≡ true) × (new ≡ old)
IsRefusal fits (Net error) old new = ⊥

-- memory ran out before the turn
abbrev pub IsUnbegun : Known Settings Entry → Known Settings Entry → ExchangeError → Type 0
IsUnbegun before now error = (error ≡ NoMemory) × (now ≡ before)

-- nothing is said of the ids that were drawn
abbrev pub any_ids : List ℕ → Type 0
any_ids ids = Unit {0}
