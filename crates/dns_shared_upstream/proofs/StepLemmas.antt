-- The calls of a holder as steps of a send.
use Rattle.std.proofs.Common.{◌≡◌, ℕ, ◌+◌, ◌≤◌, ◌⊎◌, inl, inr, Bool, true, List, [], ◌∷◌, ◌++◌, length, Option, None, Some, Result, Ok, Err, OnOk, IfErr, refl, sym, ap, ◌∙◌, append-nil, subst, arith}
use Rattle.turns.specs.Turns.{Held, Known, Begins, Agrees}
use Rattle.turns.proofs.Beginnings.{begins_itself}
use Rattle.dns_record.specs.declared.no_memory.NoMemory.{NoMemory}
use Rattle.dns_model.specs.SoundAnswers.{ResponseValue}
use Rattle.dns_handle.specs.declared.error.NetError.{NetError}
use Rattle.dns_handle.specs.declared.io_kind.IoKind.{IoKind}
use Rattle.dns_handle.specs.declared.error.NetError.TheVariants as net
use Rattle.dns_handle.specs.declared.notice.Notice.TheVariants as notices
use Rattle.dns_handle.specs.Conversions.{outside_failed}
use Rattle.dns_handle.specs.Errors as seen
use Rattle.dns_handle.specs.Errors.{ErrorValue, Reply}
use Rattle.dns_handle.specs.Replies.{error_of, reply_of}
use Rattle.dns_handle.specs.Requests.{RequestValue}
use Rattle.dns_multiplexer.specs.declared.arrival.Arrival.{Arrival}
use Rattle.dns_multiplexer.specs.declared.taken.Taken.{Taken}
use Rattle.dns_multiplexer.specs.declared.taken.Taken.TheVariants as taken
use Rattle.dns_multiplexer.specs.Draws.{request_bytes}
use Rattle.dns_multiplexer.specs.Events as mux
use Rattle.dns_multiplexer.specs.Events.{TakenValue}
use Rattle.dns_multiplexer.specs.Machine.{Settings}
use Rattle.dns_multiplexer.specs.Messages.{SerialMessageValue}
use Rattle.dns_multiplexer.specs.Views.{taken_of}
use Rattle.dns_journal.specs.declared.exchange_error.ExchangeError.{ExchangeError}
use Rattle.dns_journal.specs.declared.exchange_error.ExchangeError.TheVariants.{HistoryFull, Net, NoMemory as no_memory}
use Rattle.dns_journal.specs.Calls.{IsAdded, IsPopped, IsSendRefused, IsSent, IsTaken, refused_as, with_entry}
use Rattle.dns_journal.specs.Entries.{Entry, Arrive, Cancel, Close, Pop, Send, Take}
use Rattle.dns_journal.specs.Limits.{arrival_fits, call_fits, close_fits, send_fits, was_closed}
use Rattle.dns_shared_exchange.specs.Tokens.{IsKnown, IsRefusal, IsTurn, IsUnbegun, any_ids}
use Rattle.dns_tcp.specs.Exchanges.{most_messages}
use Rattle.dns_tcp.specs.Frames.{HasFrame}
use Rattle.dns_shared_upstream.specs.Calls.{Gave, HadNoRoom, closes_in}
use Rattle.dns_shared_upstream.specs.Sends.{Asked, HadNoPlace, WasUnsent, WasRefused, WasSent, HolderValue, Made, Stopped, WasGiven, HadEnded, HadFault, NoTake, NoArrival, HadNoMemory, WasStopped, WasUnanswered}
use Rattle.dns_shared_upstream.specs.Rounds.{Canceled, ClosedWith, Closes, Ends, Fails, FindsNone, Goes, Passed, PassesOver, SentAs, Stops, Takes, Waits}
use Rattle.dns_shared_upstream.proofs.CallLemmas.{One, Sight, agrees_itself, called_none, called_one, arrives_both, gave_one, given_none, given_one, no_room, none_before, none_one}
use Rattle.dns_shared_upstream.proofs.MadeLemmas.{made_itself, made_on, over_more, over_since, stopped_more, stopped_since, waited_behind, waited_since}

abbrev Value : Type 0
Value = Held Settings Entry

abbrev Seen : Type 0
Seen = Known Settings Entry

abbrev Calls : Type 0
Calls = List (ℕ × Entry)

-- what a take gave, as a reply
abbrev pub reply_in : Taken → Option (Result ResponseValue NetError)
reply_in (taken.Item reply) = Some reply
reply_in taken.Pending = None
reply_in taken.Ended = Some (Err net.Timeout)

-- ---- steps one behind the other

pub passed_itself : (x : HolderValue) → Passed 0 x x
passed_itself x = record { calls = []; made = made_itself x; arrives = refl }

pub passed_on : (m n all : ℕ) (x y z : HolderValue) → m + n ≡ all → Passed m x y → Passed n y z → Passed all x z
passed_on m n all x y z sum first second =
    let both = arrives_both first.calls second.calls in
    let one = first.arrives in
    let other = second.arrives in
    record {
      calls = first.calls ++ second.calls;
      made = made_on first.calls second.calls x y z first.made second.made;
      arrives = omega (arith, both, one, other, sum);
    }

pub stops_on : (n number : ℕ) (x y z : HolderValue) (reply : Reply) → Passed n x y → Stops number y z reply
    → Stops number x z reply
stops_on n number x y z reply first second = record {
  calls = first.calls ++ second.calls;
  made = made_on first.calls second.calls x y z first.made second.made;
  stopped = stopped_more first.calls second.calls x z number reply
      (stopped_since first.calls x y z first.made number second.calls reply second.stopped);
}

pub fails_on : (n : ℕ) (x y z : HolderValue) (error : NetError) → Passed n x y → Fails y z error → Fails x z error
fails_on n x y z error first second = λ number. stops_on n number x y z (Err (error_of error)) first (second number)

pub goes_on : {X : Type 0} (came : X → ℕ) (x y z : HolderValue) (result : Result X NetError) → Passed 0 x y
    → Goes came y z result → Goes came x z result
goes_on came x y z (Ok v) first second = passed_on 0 (came v) (came v) x y z (omega arith) first second
goes_on came x y z (Err error) first second = fails_on 0 x y z error first second

pub fails_no_memory : (n : ℕ) (x y : HolderValue) → Passed n x y → Fails x y net.NoMemory
fails_no_memory n x y passed = λ number. record {
  calls = passed.calls;
  made = passed.made;
  stopped = HadNoMemory refl;
}

-- ---- the end of a wait

pub took_none : (number : ℕ) (x y : HolderValue) → Takes number x y (Ok None) → Passed 0 x y
took_none number x y none = none.passed

pub waits_stopped : (n number : ℕ) (x y z : HolderValue) (reply : Reply) → Passed n x y → Stops number y z reply
    → Waits number x z reply
waits_stopped n number x y z reply first second =
    let all = stops_on n number x y z reply first second in
    record { calls = all.calls; made = all.made; waited = WasStopped all.stopped }

pub waits_unanswered : (n number : ℕ) (x y z : HolderValue) → Passed n x y → FindsNone number y z → n ≡ most_messages
    → Waits number x z (Err seen.Timeout)
waits_unanswered n number x y z first second all =
    let both = arrives_both first.calls second.passed.calls in
    let one = first.arrives in
    let other = second.passed.arrives in
    record {
      calls = first.calls ++ second.passed.calls;
      made = made_on first.calls second.passed.calls x y z first.made second.passed.made;
      waited = WasUnanswered (omega (arith, both, one, other, all))
          (none_before first.calls second.passed.calls z.token.known.journal number second.none) refl;
    }

over : {A B C : Type 0} → A ⊎ B → A ⊎ (B ⊎ C)
over (inl a) = inl a
over (inr b) = inr (inl b)

module _ (request : RequestValue) (moment number : ℕ) (x y z w : HolderValue)
    (sent : SentAs (request_bytes request) moment number x y) (reply : Reply) (waits : Waits number y z reply) where
  -- the request was ended
  pub asked_sent : Canceled number z w → Asked request moment x w reply
  asked_sent ended =
      let one : Calls = (sent.place, Send (request_bytes request) moment sent.drawn (Ok number)) ∷ [] in
      let calls : Calls = waits.calls ++ ended.calls in
      let made = made_on waits.calls ended.calls y z w waits.made ended.made in
      let waited = waited_behind waits.calls ended.calls y z w ended.made number reply ended.arrives waits.waited in
      let last = over_since waits.calls y z w waits.made number ended.calls reply (over ended.over) in
      WasSent sent.place sent.drawn number calls (made_on one calls x y w sent.made made)
      (waited_since one x y w sent.made number calls reply waited)
      (over_since one x y w sent.made number calls reply (over_more waits.calls ended.calls y w number reply last))

  -- memory ran out before it was
  pub asked_lost : Passed 0 z w → Asked request moment x w (Err seen.NoMemory)
  asked_lost passed =
      let one : Calls = (sent.place, Send (request_bytes request) moment sent.drawn (Ok number)) ∷ [] in
      let calls : Calls = waits.calls ++ passed.calls in
      let made = made_on waits.calls passed.calls y z w waits.made passed.made in
      WasSent sent.place sent.drawn number calls (made_on one calls x y w sent.made made)
      (WasStopped (HadNoMemory refl)) (inr (inr refl))

-- ---- turns

abbrev Turn : HolderValue → HolderValue → (Value → Value → Type 0) → Type 0
Turn before now turn = IsTurn turn before.token.known now.token.known

module _ (before now : HolderValue) (line : now.token.line ≡ before.token.line) (known : IsKnown now.token.known) where
  called_turn : (turn : Value → Value → Type 0) (e : Entry) (t : Turn before now turn)
      → t.left ≡ with_entry e t.found → One e t.found before.token.known now.token.known
  called_turn turn e t added =
      given_one before.token.known now.token.known t.found t.left t.begun t.founded t.now_is e added

  seen_turn : (turn : Value → Value → Type 0) (t : Turn before now turn) → t.left ≡ t.found
      → Sight t.found before.token.known now.token.known
  seen_turn turn t same = given_none before.token.known now.token.known t.found t.left t.begun t.founded t.now_is same

  one_made : (e : Entry) (found : Value) → One e found before.token.known now.token.known
      → before.failures + closes_in ((length found.journal, e) ∷ []) ≤ now.failures
      → Made ((length found.journal, e) ∷ []) before now
  one_made e found one closes = record {
    called = called_one before.token now.token found line known e one;
    closes = closes;
  }

  none_made : (found : Value) → Sight found before.token.known now.token.known → before.failures ≤ now.failures
      → Made [] before now
  none_made found same later =
      record { called = called_none before.token now.token found line known same; closes = omega (arith, later) }

  module _ (same : now.failures ≡ before.failures) where
    -- a send
    pub sent_turn : (request : Option (List ℕ)) (moment number : ℕ)
        → Turn before now (λ old new. IsSent any_ids old request moment (Ok number) new)
        → SentAs request moment number before now
    sent_turn request moment number t =
        let e = Send request moment t.turned.drawn (Ok number) in
        let one = called_turn _ e t t.turned.added.added in
        record {
          place = length t.found.journal;
          drawn = t.turned.drawn;
          made = one_made e t.found one (omega (arith, same));
        }

    unsent : now.token.known ≡ before.token.known → Made [] before now
    unsent is = record {
      called = record {
        line = line;
        own = ap (λ (k : Seen). k.own) is ∙ sym (append-nil before.token.known.own);
        seen = subst (λ (k : Seen). Begins k.journal before.token.known.journal) (sym is)
            (begins_itself before.token.known.journal);
        about = subst (λ (k : Seen). Agrees before.token.known.about k.about) (sym is)
            (agrees_itself before.token.known.about);
        known = λ _. known;
      };
      closes = omega (arith, same);
    }

    refused_none : (found : Value) → Sight found before.token.known now.token.known → Made [] before now
    refused_none found sight = none_made found sight (omega (arith, same))

    -- a send that has no number
    refused_turn : (request : RequestValue) (moment : ℕ) (e : ExchangeError)
        → Turn before now (λ old new. IsSendRefused any_ids old (request_bytes request) moment new e)
        → Asked request moment before now (Err (error_of (refused_as e)))
    refused_turn request moment HistoryFull t =
        let sight = seen_turn _ t t.turned.1 in
        HadNoPlace (refused_none t.found sight)
        (no_room (send_fits (request_bytes request)) before.token.known now.token.known t.found sight t.turned.0) refl
    refused_turn request moment (Net error) t =
        let e = Send (request_bytes request) moment t.turned.drawn (Err (error_of error)) in
        let one = called_turn _ e t t.turned.added.added in
        WasRefused (length t.found.journal) t.turned.drawn (error_of error)
        (one_made e t.found one (omega (arith, same))) refl
    refused_turn request moment no_memory t =
        WasUnsent (refused_none t.found (seen_turn _ t t.turned.same)) refl

    pub sent_refused : (request : RequestValue) (moment : ℕ) (e : ExchangeError)
        → IsUnbegun before.token.known now.token.known e
        ⊎ Turn before now (λ old new. IsSendRefused any_ids old (request_bytes request) moment new e)
        → Asked request moment before now (Err (error_of (refused_as e)))
    sent_refused request moment e (inl none) =
        rw none.0 (WasUnsent (unsent none.1) refl)
    sent_refused request moment e (inr t) = refused_turn request moment e t

    -- a call of which the journal can be full
    stops_refused : (fits : Value → Bool) (number : ℕ) (e : ExchangeError)
        → ((none : HadNoRoom fits before.token.known now.token.known)
        → Stopped number [] before now (Err (seen.Message notices.HistoryFull)))
        → Turn before now (λ old new. IsRefusal (fits old) e old new)
        → Stops number before now (Err (error_of (refused_as e)))
    stops_refused fits number HistoryFull full t =
        let sight = seen_turn _ t t.turned.1 in
        record {
          calls = [];
          made = refused_none t.found sight;
          stopped = full (no_room fits before.token.known now.token.known t.found sight t.turned.0);
        }
    stops_refused fits number no_memory full t =
        record { calls = []; made = refused_none t.found (seen_turn _ t t.turned.1); stopped = HadNoMemory refl }
    stops_refused fits number (Net error) full t = absurd t.turned

    -- ---- takes

    pub take_refused : (number : ℕ) (e : ExchangeError)
        → Turn before now (λ old new. IsRefusal (call_fits old) e old new)
        → Stops number before now (Err (error_of (refused_as e)))
    take_refused number e t = stops_refused call_fits number e (λ none. NoTake none refl) t

    take_none : (number : ℕ) → Turn before now (λ old new. IsTaken old number mux.Pending new)
        → FindsNone number before now
    take_none number t =
        let e = Take number t.turned.found in
        let one = called_turn _ e t t.turned.added.added in
        record {
          passed = record {
            calls = (length t.found.journal, e) ∷ [];
            made = one_made e t.found one (omega (arith, same));
            arrives = refl;
          };
          none = none_one number t.turned.found before.token.known now.token.known t.found one t.turned.gives;
        }

    module _ (number : ℕ) (given : TakenValue)
        (t : Turn before now (λ old new. IsTaken old number given new)) where
      pub take_stops : (reply : Reply)
          → (Gave ((length t.found.journal, Take number t.turned.found) ∷ []) now.token.known.journal number given
          → Stopped number ((length t.found.journal, Take number t.turned.found) ∷ []) before now reply)
          → Stops number before now reply
      take_stops reply stopped =
          let e = Take number t.turned.found in
          let one = called_turn _ e t t.turned.added.added in
          record {
            calls = (length t.found.journal, e) ∷ [];
            made = one_made e t.found one (omega (arith, same));
            stopped = stopped
                (gave_one number t.turned.found before.token.known now.token.known t.found given one t.turned.gives);
          }

    pub took : (number : ℕ) (given : Taken)
        → Turn before now (λ old new. IsTaken old number (taken_of given) new)
        → Takes number before now (Ok (reply_in given))
    took number (taken.Item reply) t =
        take_stops number (mux.Item (reply_of reply)) t (reply_of reply) (λ gave. WasGiven gave)
    took number taken.Pending t = take_none number t
    took number taken.Ended t = take_stops number mux.Ended t (Err seen.Timeout) (λ gave. HadEnded gave refl)

    -- ---- arrivals

    pub arrived : (bytes : List ℕ) (a : Arrival)
        → Turn before now (λ old new. IsAdded (arrival_fits bytes old) old (Arrive bytes a) new)
        → Passed 1 before now
    arrived bytes a t =
        let e = Arrive bytes a in
        let one = called_turn _ e t t.turned.added in
        record {
          calls = (length t.found.journal, e) ∷ [];
          made = one_made e t.found one (omega (arith, same));
          arrives = refl;
        }

    pub arrival_refused : (bytes : List ℕ) (e : ExchangeError) → HasFrame bytes
        → IsUnbegun before.token.known now.token.known e
        ⊎ Turn before now (λ old new. IsRefusal (arrival_fits bytes old) e old new)
        → Fails before now (refused_as e)
    arrival_refused bytes e fits (inl none) = λ number.
        rw none.0 (record { calls = []; made = unsent none.1; stopped = HadNoMemory refl })
    arrival_refused bytes e fits (inr t) = λ number.
        stops_refused (arrival_fits bytes) number e (λ none. NoArrival bytes fits none refl) t

    -- ---- pops

    pub popped : (message : Option SerialMessageValue)
        → Turn before now (λ old new. IsPopped old new message) → Passed 0 before now
    popped None t =
        record { calls = []; made = refused_none t.found (seen_turn _ t t.turned.1); arrives = refl }
    popped (Some message) t =
        let one = called_turn _ Pop t t.turned.1 in
        record {
          calls = (length t.found.journal, Pop) ∷ [];
          made = one_made Pop t.found one (omega (arith, same));
          arrives = refl;
        }

    -- ---- cancels

    canceled_turn : (number : ℕ)
        → Turn before now (λ old new. IsAdded (call_fits old) old (Cancel number) new)
        → Canceled number before now
    canceled_turn number t =
        let e = Cancel number in
        let one = called_turn _ e t t.turned.added in
        record {
          calls = (length t.found.journal, e) ∷ [];
          made = one_made e t.found one (omega (arith, same));
          arrives = refl;
          over = inl (record { before = []; place = length t.found.journal; parted = refl });
        }

    pub canceled : (number : ℕ) (done : Result Unit ExchangeError) (told : Result Unit NoMemory)
        → OnOk done (Turn before now (λ old new. IsAdded (call_fits old) old (Cancel number) new))
        → IfErr done (λ e. Turn before now (λ old new. IsRefusal (call_fits old) e old new))
        → PassesOver done told → Ends number before now told
    canceled number (Ok done) (Ok told) ok err passes = canceled_turn number ok
    canceled number (Ok done) (Err e) ok err passes = cc
    canceled number (Err HistoryFull) (Ok told) ok err passes =
        let sight = seen_turn _ err err.turned.1 in
        record {
          calls = [];
          made = refused_none err.found sight;
          arrives = refl;
          over = inr (no_room call_fits before.token.known now.token.known err.found sight err.turned.0);
        }
    canceled number (Err HistoryFull) (Err e) ok err passes = cc
    canceled number (Err (Net error)) told ok err passes = absurd err.turned
    canceled number (Err no_memory) (Ok told) ok err passes = cc
    canceled number (Err no_memory) (Err e) ok err passes =
        record { calls = []; made = refused_none err.found (seen_turn _ err err.turned.1); arrives = refl }

  -- ---- closes

  module _ (rose : now.failures ≡ before.failures + 1) where
    closed_turn : (kind : IoKind)
        → Turn before now (λ old new. IsAdded (close_fits old) old (Close kind) new)
        → ClosedWith kind before now
    closed_turn kind t =
        let e = Close kind in
        let one = called_turn _ e t t.turned.added in
        record {
          calls = (length t.found.journal, e) ∷ [];
          made = one_made e t.found one (omega (arith, rose));
          arrives = refl;
          failed = record {
            rose = omega (arith, rose);
            closed = inl (record {
              place = length t.found.journal;
              among = record { before = []; behind = []; parted = refl };
            });
          };
        }

    pub closed : (kind : IoKind) (done : Result Unit ExchangeError) (told : Result Unit NoMemory)
        → OnOk done (Turn before now (λ old new. IsAdded (close_fits old) old (Close kind) new))
        → IfErr done (λ e. Turn before now (λ old new. (was_closed old ≡ true) × IsRefusal (close_fits old) e old new))
        → PassesOver done told → Closes kind before now told
    closed kind (Ok done) (Ok told) ok err passes = closed_turn kind ok
    closed kind (Ok done) (Err e) ok err passes = cc
    closed kind (Err HistoryFull) (Ok told) ok err passes =
        let sight = seen_turn _ err err.turned.1.1 in
        record {
          calls = [];
          made = none_made err.found sight (omega (arith, rose));
          arrives = refl;
          failed = record {
            rose = omega (arith, rose);
            closed = inr (no_room close_fits before.token.known now.token.known err.found sight err.turned.1.0);
          };
        }
    closed kind (Err HistoryFull) (Err e) ok err passes = cc
    closed kind (Err (Net error)) told ok err passes = absurd err.turned.1
    closed kind (Err no_memory) (Ok told) ok err passes = cc
    closed kind (Err no_memory) (Err e) ok err passes = record {
      calls = [];
      made = none_made err.found (seen_turn _ err err.turned.1.1) (omega (arith, rose));
      arrives = refl;
    }

-- ---- a failure of the stream

-- it was counted, and the exchange closed with it
pub closed_fails : (kind : IoKind) (x y : HolderValue) (error : NetError) → ClosedWith kind x y
    → error ≡ outside_failed kind
    → Fails x y error
closed_fails kind x y error closed is = λ number. record {
  calls = closed.calls;
  made = closed.made;
  stopped = HadFault kind closed.failed (ap (λ (e : NetError). Err (error_of e)) is);
}

pub closed_passed : (kind : IoKind) (x y : HolderValue) → ClosedWith kind x y → Passed 0 x y
closed_passed kind x y closed = record { calls = closed.calls; made = closed.made; arrives = closed.arrives }
