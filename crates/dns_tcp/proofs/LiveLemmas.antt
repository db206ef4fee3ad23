-- Which requests are live after a send and what comes for it: none that wasn't before.
use Rattle.std.proofs.Common.{◌≡◌, ℕ, ◌==◌, inl, inr, ◌⊎◌, true, false, Bool, cond, List, [], ◌∷◌, ◌++◌, length, Option, None, Some, Result, Ok, Err, refl, sym, ap, ◌∙◌, slice_get}
use Rattle.std.specs.Option.{option_map}
use Rattle.std.proofs.lemmas.Bool.{cases_eq}
use Rattle.std.proofs.lemmas.Option.{slice_get-map}
use Rattle.dns_model.specs.Records.{MessageValue}
use Rattle.dns_message.specs.declared.decode_error.DecodeError.{DecodeError}
use Rattle.dns_message.specs.MessageAt.{message_at}
use Rattle.dns_handle.specs.declared.io_kind.IoKind.{IoKind}
use Rattle.dns_handle.specs.Errors as seen
use Rattle.dns_multiplexer.specs.declared.arrival.Arrival.{Arrival}
use Rattle.dns_multiplexer.specs.declared.arrival.Arrival.TheVariants.{Full, Queued, Stranger, Undecodable}
use Rattle.dns_multiplexer.specs.Draws.{CoreValue, IsSend, Plays}
use Rattle.dns_multiplexer.specs.Events.{TakenValue, Send, Arrive, Take, Cancel, Close, last_drawn}
use Rattle.dns_multiplexer.specs.Machine.{Settings, Request, State, after_arrival, cancelled, changed_at, closed, is_busy, is_taken_id, sent_under, with_item, without_first}
use Rattle.dns_multiplexer.specs.Messages.{answered_by}
use Rattle.dns_multiplexer.specs.Runs.{life_at, life_of}
use Rattle.dns_multiplexer.proofs.HistoryLemmas.{accepted-case}
use Rattle.dns_multiplexer.proofs.ListLemmas.{choose_here, choose_other, get-changed_at}
use Rattle.dns_multiplexer.proofs.MachineStepLemmas.{slice_get-append}
use Rattle.dns_tcp.specs.Exchanges.{NoneRevived}
use Rattle.dns_tcp.specs.Steps.{IsGoingOn}

-- ---- changes of one request

life_case : (b : Bool) (change : Request → Request) → ((r : Request) → (change r).life ≡ r.life) → (o : Option Request)
    → life_of (cond b (option_map change o) o) ≡ life_of o
life_case true change same None = refl
life_case true change same (Some r) = same r
life_case false change same o = refl

pub life_kept : (k other : ℕ) (change : Request → Request) → ((r : Request) → (change r).life ≡ r.life)
    → (rs : List Request)
    → life_of (slice_get (changed_at k change rs) other) ≡ life_of (slice_get rs other)
life_kept k other change same rs =
    ap life_of (get-changed_at k other change rs) ∙ life_case (k == other) change same (slice_get rs other)

-- a change of one request that leaves its life leaves every life
lives_kept : (k : ℕ) (change : Request → Request) → ((r : Request) → (change r).life ≡ r.life) → (old new : State)
    → new.requests ≡ changed_at k change old.requests → NoneRevived old new
lives_kept k change same old new e n none =
    ap (λ (rs : List Request). life_of (slice_get rs n)) e ∙ life_kept k n change same old.requests ∙ none

pub same_lives : (old new : State) → new.requests ≡ old.requests → NoneRevived old new
same_lives old new e n none = ap (λ (rs : List Request). life_of (slice_get rs n)) e ∙ none

pub lives_on : (a b c : State) → NoneRevived a b → NoneRevived b c → NoneRevived a c
lives_on a b c h k n none = k n (h n none)

arrival_lives : (old new : State) (read : Result MessageValue DecodeError) (reply : Arrival)
    → new.requests ≡ after_arrival read reply old.requests → NoneRevived old new
arrival_lives old new (Ok message) (Queued id) e = lives_kept id.0 (with_item (answered_by message)) (λ r. refl) old new e
arrival_lives old new (Ok message) (Undecodable error) e = same_lives old new e
arrival_lives old new (Ok message) Stranger e = same_lives old new e
arrival_lives old new (Ok message) Full e = same_lives old new e
arrival_lives old new (Err error) reply e = same_lives old new e

-- an arrival and a take end lives at most
pub offer_lives : (settings later : Settings) (old mid new : State) (bytes : List ℕ) (a : Arrival) (number : ℕ) (t : TakenValue)
    → Plays settings old mid (Arrive bytes a) → Plays later mid new (Take number t) → NoneRevived old new
offer_lives settings later old mid new bytes a number t p q =
    lives_on old mid new
    (arrival_lives old mid (message_at bytes) a (ap (λ (s : State). s.requests) p.moved))
    (lives_kept number without_first (λ r. refl) mid new (ap (λ (s : State). s.requests) q.moved))

closed_case : (fault : IoKind) (o : Option Request) → life_of (option_map (closed fault) o) ≡ None
closed_case fault None = refl
closed_case fault (Some r) = refl

-- after a close no request is live
pub close_lives : (settings : Settings) (old new : State) (fault : IoKind) → Plays settings old new (Close fault)
    → NoneRevived old new
close_lives settings old new fault p n none =
    ap (λ (s : State). life_of (slice_get s.requests n)) p.moved
    ∙ ap life_of (slice_get-map (closed fault) old.requests n) ∙ closed_case fault (slice_get old.requests n)

ended_case : (o : Option Request) → life_of (option_map cancelled o) ≡ None
ended_case None = refl
ended_case (Some r) = refl

-- a request that was cancelled isn't live
pub cancelled_ends : (settings : Settings) (old new : State) (number : ℕ) → Plays settings old new (Cancel number)
    → life_at new number ≡ None
cancelled_ends settings old new number p =
    let same = get-changed_at number number cancelled old.requests
    ∙ choose_here number number (option_map cancelled (slice_get old.requests number))
    (slice_get old.requests number) refl in
    ap (λ (s : State). life_of (slice_get s.requests number)) p.moved ∙ ap life_of same
    ∙ ended_case (slice_get old.requests number)

-- ---- a send, what comes for it, and its cancel

module _ (settings later : Settings) (old sent kept new : State) (request : Option (List ℕ)) (moment number : ℕ)
    (drawn : List ℕ) (lives : NoneRevived sent kept) (cancel : Plays later kept new (Cancel number)) where
  other_lives : (n : ℕ) → (n ≡ number → ⊥) → sent.requests ≡ old.requests ++ sent_under (last_drawn drawn) moment ∷ []
      → number ≡ length old.requests → life_at old n ≡ None → life_at new n ≡ None
  other_lives n apart grown next none =
      let ours = sent_under (last_drawn drawn) moment in
      let before : slice_get (old.requests ++ ours ∷ []) n ≡ slice_get old.requests n =
      slice_get-append old.requests ours n
      ∙ choose_other (length old.requests) n (Some ours) (slice_get old.requests n) (λ e. apart (sym e ∙ sym next)) in
      let unsent : life_at sent n ≡ None =
      ap (λ (rs : List Request). life_of (slice_get rs n)) grown ∙ ap life_of before ∙ none in
      ap (λ (s : State). life_of (slice_get s.requests n)) cancel.moved
      ∙ ap life_of (get-changed_at number n cancelled kept.requests
      ∙ choose_other number n (option_map cancelled (slice_get kept.requests n)) (slice_get kept.requests n) (λ e. apart (sym e)))
      ∙ lives n unsent

  played_lives : Plays settings old sent (Send request moment drawn true (Ok number)) → (n : ℕ)
      → (d : (n ≡ number) ⊎ (n ≡ number → ⊥)) → life_at old n ≡ None → life_at new n ≡ None
  played_lives p n (inl same) none =
      ap (life_at new) same ∙ cancelled_ends later kept new number cancel
  played_lives p n (inr apart) none =
      let accepted = accepted-case settings old request drawn number (is_busy settings old)
      (is_taken_id old.requests (last_drawn drawn)) refl p.answered.2 in
      other_lives n apart (ap (λ (s : State). s.requests) p.moved) accepted.next none

  lives_by : ((Ok number ≡ Err seen.NoMemory) × (sent ≡ old)) ⊎ Plays settings old sent
      (Send request moment drawn true (Ok number)) → NoneRevived old new
  lives_by (inl h) n none = let no = h.0 in cc
  lives_by (inr p) n none = played_lives p n (cases_eq n number) none

-- once a request that was sent is cancelled, none is live that wasn't before
pub sent_lives : (draws : List ℕ → Type 0) (settings later : Settings) (old sent kept new : State)
    (request : Option (List ℕ)) (moment number : ℕ)
    (send : IsSend draws settings old sent request moment (Ok number)) → NoneRevived sent kept
    → Plays later kept new (Cancel number) → NoneRevived old new
sent_lives draws settings later old sent kept new request moment number send lives cancel =
    lives_by settings later old sent kept new request moment number send.drawn lives cancel send.played

-- ---- a multiplexer that goes on

pub going_none : (core : CoreValue) → IsGoingOn core core
going_none core = record { settings = refl; outbound = refl; lives = λ n none. none }

pub going_on : (a b c : CoreValue) → IsGoingOn a b → IsGoingOn b c → IsGoingOn a c
going_on a b c h k = record {
  settings = k.settings ∙ h.settings;
  outbound = k.outbound ∙ h.outbound;
  lives = lives_on a.state b.state c.state h.lives k.lives;
}

-- an arrival, and a take behind it
pub going_offer : (old mid new : CoreValue) (bytes : List ℕ) (a : Arrival) (number : ℕ) (t : TakenValue)
    → Plays old.settings old.state mid.state (Arrive bytes a) → mid ≡ record old { state = mid.state }
    → Plays mid.settings mid.state new.state (Take number t) → new ≡ record mid { state = new.state } → IsGoingOn old new
going_offer old mid new bytes a number t p h q k = record {
  settings = ap (λ (c : CoreValue). c.settings) k ∙ ap (λ (c : CoreValue). c.settings) h;
  outbound = ap (λ (s : State). s.outbound) q.moved ∙ ap (λ (s : State). s.outbound) p.moved;
  lives = offer_lives old.settings mid.settings old.state mid.state new.state bytes a number t p q;
}

pub going_close : (old new : CoreValue) (fault : IoKind) → Plays old.settings old.state new.state (Close fault)
    → new ≡ record old { state = new.state; is_shutdown = true } → IsGoingOn old new
going_close old new fault p k = record {
  settings = ap (λ (c : CoreValue). c.settings) k;
  outbound = ap (λ (s : State). s.outbound) p.moved;
  lives = close_lives old.settings old.state new.state fault p;
}
