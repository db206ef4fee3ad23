-- Each journal that can be is a history of the multiplexer.
use Rattle.std.proofs.Common.{◌≡◌, ℕ, Bool, true, false, List, [], ◌∷◌, ◌++◌, map, take, Option, None, Some, Result, Ok, Err, refl, sym, ap, ◌∙◌, slice_get, if◌then◌else◌}
use Rattle.std.specs.Prelude.{is_ok}
use Rattle.dns_handle.specs.Errors.{ErrorValue}
use Rattle.dns_multiplexer.specs.Messages.{SerialMessageValue}
use Rattle.dns_multiplexer.specs.Events as mux
use Rattle.dns_multiplexer.specs.Events.{Event}
use Rattle.dns_multiplexer.specs.Machine.{Settings, State, IsAnswered}
use Rattle.dns_multiplexer.specs.Runs.{replay, IsPlayed}
use Rattle.dns_multiplexer.proofs.HistoryLemmas.{told_by_history}
use Rattle.dns_journal.specs.Entries.{Entry, Send, Arrive, Take, Cancel, Tick, Close, Pop}
use Rattle.dns_journal.specs.Histories.{is_closed, history, state_after, taken_at, IsLegal, IsRepliedSend}
use Rattle.dns_journal.specs.Laws.{IsHistory}

one-more : (about : Settings) (before : List Event) (event : Event) → IsPlayed about [] before
    → IsAnswered about (replay about [] before) event → IsPlayed about [] (event ∷ before)
unfolding IsPlayed
one-more about before event played answered = (played, record { maximum = about.maximum; answered = answered })

send-case : (about : Settings) (before : List Event) (request : Option (List ℕ)) (moment : ℕ) (drawn : List ℕ)
    (reply : Result ℕ ErrorValue) (b : Bool) → IsPlayed about [] before
    → IsRepliedSend about (replay about [] before) b request moment drawn reply
    → IsPlayed about [] ((if b then [] else mux.Send request moment drawn (is_ok reply) reply ∷ []) ++ before)
send-case about before request moment drawn reply true played replied = played
send-case about before request moment drawn reply false played replied =
    one-more about before (mux.Send request moment drawn (is_ok reply) reply) played replied

pop-case : (about : Settings) (before : List Event) (waiting : List SerialMessageValue) → IsPlayed about [] before
    → (replay about [] before).outbound ≡ waiting → IsPlayed about [] (map mux.Pop (take 1 waiting) ++ before)
pop-case about before [] played none = played
pop-case about before (m ∷ ms) played some =
    one-more about before (mux.Pop m) played (ap (λ (all : List SerialMessageValue). slice_get all 0) (sym some))

pub played_history : (about : Settings) (past : List Entry) → IsLegal about past
    → IsPlayed about [] (history about past)
unfolding history IsLegal IsPlayed
played_history about [] legal = tt
played_history about (Send request moment drawn reply ∷ past) legal =
    send-case about (history about past) request moment drawn reply (is_closed past) (played_history about past legal.0)
    legal.1
played_history about (Arrive bytes reply ∷ past) legal =
    one-more about (history about past) (mux.Arrive bytes reply) (played_history about past legal.0) legal.1
played_history about (Take number found ∷ past) legal =
    one-more about (history about past) (mux.Take number (taken_at past found)) (played_history about past legal.0)
    legal.1.answered
played_history about (Cancel number ∷ past) legal =
    one-more about (history about past) (mux.Cancel number) (played_history about past legal.0) tt
played_history about (Tick moment ∷ past) legal =
    one-more about (history about past) (mux.Tick moment) (played_history about past legal.0) tt
played_history about (Close fault ∷ past) legal =
    one-more about (history about past) (mux.Close fault) (played_history about past legal.0) tt
played_history about (Pop ∷ past) legal =
    pop-case about (history about past) (state_after about past).outbound (played_history about past legal.0) refl

pub is_history : (about : Settings) (past : List Entry) → IsLegal about past → IsHistory about past
is_history about past legal = record {
  played = played_history about past legal;
  told = told_by_history about [] (history about past) (played_history about past legal);
}
