-- What one entry more makes of the state that a journal stands for.
use Rattle.std.proofs.Common.{◌≡◌, ℕ, Bool, true, false, List, [], ◌∷◌, ◌++◌, drop, map, take, Option, None, Some, Result, Ok, Err, refl, sym, ap, ◌∙◌, if◌then◌else◌}
use Rattle.std.specs.Prelude.{is_ok}
use Rattle.dns_handle.specs.Errors.{ErrorValue}
use Rattle.dns_multiplexer.specs.Messages.{SerialMessageValue}
use Rattle.dns_multiplexer.specs.Events as mux
use Rattle.dns_multiplexer.specs.Events.{Event}
use Rattle.dns_multiplexer.specs.Machine.{Settings, State, after}
use Rattle.dns_multiplexer.specs.Runs.{replay}
use Rattle.dns_journal.specs.Entries.{Entry, Send, Arrive, Take, Cancel, Tick, Close, Pop}
use Rattle.dns_journal.specs.Histories.{is_closed, events_by, history, state_after, taken_at}

-- the state after one entry more
abbrev pub stepped : Settings → State → List Entry → Entry → State
stepped about state past (Send request moment drawn reply) =
    if is_closed past then state else after about state (mux.Send request moment drawn (is_ok reply) reply)
stepped about state past (Arrive bytes reply) = after about state (mux.Arrive bytes reply)
stepped about state past (Take number found) = after about state (mux.Take number (taken_at past found))
stepped about state past (Cancel number) = after about state (mux.Cancel number)
stepped about state past (Tick moment) = after about state (mux.Tick moment)
stepped about state past (Close fault) = after about state (mux.Close fault)
stepped about state past Pop = record state { outbound = drop 1 state.outbound }

-- the events of an entry, played on
abbrev played_on : Settings → List Event → List Event → State
played_on about events before = replay about [] (events ++ before)

send-case : (about : Settings) (before : List Event) (event : Event) (b : Bool)
    → played_on about (if b then [] else event ∷ []) before
    ≡ (if b then replay about [] before else after about (replay about [] before) event)
unfolding replay
send-case about before event true = refl
send-case about before event false = refl

pop-case : (about : Settings) (before : List Event) (state : State) (waiting : List SerialMessageValue)
    → state ≡ replay about [] before → state.outbound ≡ waiting
    → played_on about (map mux.Pop (take 1 waiting)) before ≡ record state { outbound = drop 1 waiting }
unfolding replay
pop-case about before state [] is none = sym is ∙ ap (λ (ms : List SerialMessageValue). record state { outbound = ms })
    none
pop-case about before state (m ∷ ms) is some =
    ap (λ (s : State). record s { outbound = drop 1 s.outbound }) (sym is)
    ∙ ap (λ (all : List SerialMessageValue). record state { outbound = drop 1 all }) some

pub state_more : (about : Settings) (past : List Entry) (e : Entry)
    → state_after about (e ∷ past) ≡ stepped about (state_after about past) past e
unfolding history replay
state_more about past (Send request moment drawn reply) =
    send-case about (history about past) (mux.Send request moment drawn (is_ok reply) reply) (is_closed past)
state_more about past (Arrive bytes reply) = refl
state_more about past (Take number found) = refl
state_more about past (Cancel number) = refl
state_more about past (Tick moment) = refl
state_more about past (Close fault) = refl
state_more about past Pop =
    pop-case about (history about past) (state_after about past) (state_after about past).outbound refl refl
