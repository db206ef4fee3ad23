-- What a call leaves begins with what it found.
use Rattle.std.proofs.Common.{◌≡◌, ℕ, Bool, List, ◌∷◌, [], Option, Result, Ok, Err, sym, subst}
use Rattle.std.proofs.Common.{IfOk, IfErr}
use Rattle.std.proofs.Math.Seq.{take-append_seam}
use Rattle.turns.specs.Turns.{Held, Known, Begins, Takes}
use Rattle.turns.proofs.Beginnings.{begins_itself}
use Rattle.dns_multiplexer.specs.Machine.{Settings}
use Rattle.dns_multiplexer.specs.declared.request_id.RequestId.{RequestId}
use Rattle.dns_multiplexer.specs.declared.arrival.Arrival.{Arrival}
use Rattle.dns_journal.specs.declared.exchange_error.ExchangeError.{ExchangeError}
use Rattle.dns_journal.specs.declared.exchange_error.ExchangeError.TheVariants.{HistoryFull, Net, NoMemory}
use Rattle.dns_journal.specs.declared.refusal.Refusal.{Refusal}
use Rattle.dns_journal.specs.declared.refusal.Refusal.TheVariants as refused
use Rattle.dns_journal.specs.Entries.{Entry}
use Rattle.dns_journal.specs.Calls.{IsAdded, IsRefused, IsSent, IsSendRefused}

abbrev Seen : Type 0
Seen = Known Settings Entry

abbrev Value : Type 0
Value = Held Settings Entry

-- who took the value has seen what was found
pub begins_taken : (before mid : Seen) (found left : Value) → Takes before found mid
    → Begins left.journal found.journal → Begins left.journal mid.journal
begins_taken before mid found left took begun =
    subst (λ (k : Seen). Begins left.journal k.journal) (sym took.2) begun

begins_added : (fits : Bool) (old new : Value) (e : Entry) → IsAdded fits old e new → Begins new.journal old.journal
begins_added fits old new e is =
    subst (λ (v : Value). Begins v.journal old.journal) (sym is.added) (take-append_seam old.journal (e ∷ []))

begins_same : (old new : Value) → new ≡ old → Begins new.journal old.journal
begins_same old new is = subst (λ (v : Value). Begins v.journal old.journal) (sym is) (begins_itself old.journal)

begins_refused : (fits : Bool) (old new : Value) (refusal : Refusal) → IsRefused fits old new refusal
    → Begins new.journal old.journal
begins_refused fits old new refused.HistoryFull is = begins_same old new is.1
begins_refused fits old new refused.NoMemory is = begins_same old new is.1

-- an arrival adds an entry, or is refused
pub begins_arrival : (fits : Bool) (entry : Arrival → Entry) (old new : Value) (arrived : Result Arrival Refusal)
    → IfOk arrived (λ a. IsAdded fits old (entry a) new) → IfErr arrived (IsRefused fits old new)
    → Begins new.journal old.journal
begins_arrival fits entry old new (Ok a) ok err = begins_added fits old new (entry a) ok
begins_arrival fits entry old new (Err refusal) ok err = begins_refused fits old new refusal err

-- a send adds one, or is refused
pub begins_send : (draws : List ℕ → Type 0) (request : Option (List ℕ)) (moment : ℕ) (old new : Value)
    (sent : Result RequestId ExchangeError) → IfOk sent (λ id. IsSent draws old request moment (Ok id.0) new)
    → IfErr sent (IsSendRefused draws old request moment new) → Begins new.journal old.journal
begins_send draws request moment old new (Ok id) ok err = begins_added _ old new _ ok.added
begins_send draws request moment old new (Err HistoryFull) ok err = begins_same old new err.1
begins_send draws request moment old new (Err (Net error)) ok err = begins_added _ old new _ err.added
begins_send draws request moment old new (Err NoMemory) ok err = begins_same old new err.same
