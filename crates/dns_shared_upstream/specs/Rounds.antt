-- For private functions only: the steps of a send.
use Rattle.std.specs.Prelude.{ℕ, ◌≡◌, ◌⊎◌, Bool, true, false, List, [], ◌∷◌, Option, None, Some, Result, Ok, Err, IsErr, IsOk}
use Rattle.dns_model.specs.SoundAnswers.{ResponseValue}
use Rattle.dns_handle.specs.declared.error.NetError.{NetError}
use Rattle.dns_handle.specs.declared.io_kind.IoKind.{IoKind}
use Rattle.dns_handle.specs.Errors.{Reply}
use Rattle.dns_handle.specs.Replies.{error_of, reply_of}
use Rattle.dns_journal.specs.declared.exchange_error.ExchangeError.{ExchangeError}
use Rattle.dns_journal.specs.declared.exchange_error.ExchangeError.TheVariants.{NoMemory}
use Rattle.dns_journal.specs.Entries.{Entry, Cancel, Send}
use Rattle.dns_journal.specs.Limits.{call_fits}
use Rattle.dns_shared_upstream.specs.declared.progress.Progress.{Progress}
use Rattle.dns_shared_upstream.specs.declared.progress.Progress.TheVariants.{Answered, Read}
use Rattle.dns_shared_upstream.specs.Calls.{EndsWith, FoundNone, HadNoRoom, arrives_in}
use Rattle.dns_shared_upstream.specs.Sends.{HolderValue, Made, Stopped, StreamFailed, Waited}

-- calls were made, by which so many messages came
pub record Passed (came : ℕ) (before now : HolderValue) : Type 0 where
  pub calls : List (ℕ × Entry)
  pub made : Made calls before now
  pub arrives : arrives_in calls ≡ came

-- calls were made, and by them a wait ended
pub record Stops (number : ℕ) (before now : HolderValue) (reply : Reply) : Type 0 where
  pub calls : List (ℕ × Entry)
  pub made : Made calls before now
  pub stopped : Stopped number calls before now reply

-- the same, or as many messages came as are waited for
pub record Waits (number : ℕ) (before now : HolderValue) (reply : Reply) : Type 0 where
  pub calls : List (ℕ × Entry)
  pub made : Made calls before now
  pub waited : Waited number calls before now reply

-- a request was sent under a number
pub record SentAs (request : Option (List ℕ)) (moment number : ℕ) (before now : HolderValue) : Type 0 where
  pub place : ℕ
  pub drawn : List ℕ
  pub made : Made ((place, Send request moment drawn (Ok number)) ∷ []) before now

-- a failure of the stream was counted, and the exchange closed with its fault
pub record ClosedWith (kind : IoKind) (before now : HolderValue) : Type 0 where
  pub calls : List (ℕ × Entry)
  pub made : Made calls before now
  pub arrives : arrives_in calls ≡ 0
  pub failed : StreamFailed kind calls before now

-- the same, unless memory ran out
abbrev pub Closes : {X E : Type 0} → IoKind → HolderValue → HolderValue → Result X E → Type 0
Closes kind before now (Ok done) = ClosedWith kind before now
Closes kind before now (Err e) = Passed 0 before now

-- a request was ended, or the journal had no room for that
pub record Canceled (number : ℕ) (before now : HolderValue) : Type 0 where
  pub calls : List (ℕ × Entry)
  pub made : Made calls before now
  pub arrives : arrives_in calls ≡ 0
  pub over : EndsWith (Cancel number) calls ⊎ HadNoRoom call_fits before.token.known now.token.known

-- the same, unless memory ran out
abbrev pub Ends : {X E : Type 0} → ℕ → HolderValue → HolderValue → Result X E → Type 0
Ends number before now (Ok done) = Canceled number before now
Ends number before now (Err e) = Passed 0 before now

-- the wait for any request ended with an error
abbrev pub Fails : HolderValue → HolderValue → NetError → Type 0
Fails before now error = (number : ℕ) → Stops number before now (Err (error_of error))

-- a step that no request's wait depends on: so many messages came, or each wait ended
abbrev pub Goes : {X : Type 0} → (X → ℕ) → HolderValue → HolderValue → Result X NetError → Type 0
Goes came before now (Ok x) = Passed (came x) before now
Goes came before now (Err error) = Fails before now error

-- a refusal by a full history is passed over, and want of memory isn't
abbrev pub PassesOver : {X Y E : Type 0} → Result X ExchangeError → Result Y E → Type 0
PassesOver (Err NoMemory) told = IsErr told
PassesOver _ told = IsOk told

-- a take of a request found that nothing waits for it yet
pub record FindsNone (number : ℕ) (before now : HolderValue) : Type 0 where
  pub passed : Passed 0 before now
  pub none : FoundNone passed.calls now.token.known.journal number

-- a step that takes what waits for a request
abbrev pub Takes : ℕ → HolderValue → HolderValue → Result (Option (Result ResponseValue NetError)) NetError → Type 0
Takes number before now (Ok None) = FindsNone number before now
Takes number before now (Ok (Some reply)) = Stops number before now (reply_of reply)
Takes number before now (Err error) = Stops number before now (Err (error_of error))

-- one message came, or none
abbrev pub if_came : Bool → ℕ
if_came true = 1
if_came false = 0

-- a turn at the stream
abbrev pub Progresses : ℕ → HolderValue → HolderValue → Result Progress NetError → Type 0
Progresses number before now (Ok (Answered reply)) = Stops number before now (reply_of reply)
Progresses number before now (Ok (Read came)) = Passed (if_came came) before now
Progresses number before now (Err error) = Stops number before now (Err (error_of error))

abbrev pub none_came : {X : Type 0} → X → ℕ
none_came x = 0

abbrev pub one_came : {X : Type 0} → X → ℕ
one_came x = 1
