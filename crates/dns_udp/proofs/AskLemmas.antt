-- What a call asks of its dialer and its sockets.
use Rattle.std.proofs.Common.{◌≡◌, ℕ, zero, suc, ◌+◌, ◌<◌, ◌⊎◌, inl, inr, Bool, true, false, List, [], ◌∷◌, ◌++◌, length, replicate, set, get_or, Option, None, Some, Result, Ok, Err, refl, sym, ap, ◌∙◌, subst, length-append, arith}
use Rattle.std.specs.declared.net.socket_addr.SocketAddr.{SocketAddr}
use Rattle.dns_handle.specs.Conversions.{outside_failed}
use Rattle.dns_handle.specs.Errors as seen
use Rattle.dns_handle.specs.Errors.{Reply}
use Rattle.dns_handle.specs.Replies.{error_of}
use Rattle.dns_handle.specs.declared.error.NetError.{NetError}
use Rattle.dns_handle.specs.declared.error.NetError.TheVariants.{Message, NoMemory}
use Rattle.dns_handle.specs.declared.io_kind.IoKind.{IoKind}
use Rattle.dns_handle.specs.declared.io_kind.IoKind.TheVariants.{TimedOut}
use Rattle.dns_handle.specs.declared.notice.Notice.TheVariants.{NotAllBytesSent}
use Rattle.dns_handle.specs.Requests.{RequestValue}
use Rattle.dns_link.specs.Calls.{IsToldWith, IsToldWithThose, NetCalls, Tells, and_calls, fault_of, last_fault, no_calls, only_fault}
use Rattle.dns_link.specs.declared.net_call.NetCall.{NetCall}
use Rattle.dns_link.specs.declared.net_call.NetCall.TheVariants.{Bind, Send}
use Rattle.dns_link.specs.Moved.{DatagramValue}
use Rattle.dns_message.specs.WrittenAs.{encoded}
use Rattle.dns_model.specs.SoundAnswers.{ResponseValue}
use Rattle.dns_link.proofs.CallLemmas.{calls_shift, told_none, told_same, told_then, told_those, tells_then}
use Rattle.dns_udp.specs.Asks.{AreTold, AskPlan, AskState, AsksOn, CallAsks, GivesBack, IsSentWith, answer, ask_plan, failure}
use Rattle.dns_udp.specs.Bindings.{AreTried, BindingValue, bind_calls}
use Rattle.dns_udp.specs.Conversations.{AndMade, AndRefused, AreAskedFor, AsksAll, HasKind, NoSocket, calls_with_sends}
use Rattle.dns_udp.specs.Encodings.{IsEncoded}
use Rattle.dns_udp.specs.Requests.{AskedValue}
use Rattle.dns_udp.specs.Waiting.{Judges}

-- ---- faults

last_first : (fault : Option IoKind) → last_fault None fault ≡ fault
last_first None = refl
last_first (Some kind) = refl

no_first : (a b : Option IoKind) → None ≡ last_fault a b → a ≡ None
no_first None b h = refl
no_first (Some kind) None h = absurd (cc)
no_first (Some kind) (Some _) h = absurd (cc)

no_last : (a b : Option IoKind) → None ≡ last_fault a b → b ≡ None
no_last a None h = refl
no_last a (Some kind) h = absurd (cc)

-- a reply by a fault of the outside has its kind
kind_told : (all : Bool) (fault last : Option IoKind) (kind : IoKind) → last ≡ Some kind
    → HasKind all fault last (Err (error_of (outside_failed kind)))
kind_told all fault last TimedOut h = inl h
kind_told all fault last _ h = h

-- the last of the binds that are refused is the last fault
bind_kind : (again : List (SocketAddr × IoKind)) (local : SocketAddr) (kind : IoKind)
    → (bind_calls again local (Some kind)).fault ≡ Some kind
bind_kind [] local kind = refl
bind_kind (refusal ∷ again) local kind = ap (last_fault (Some refusal.1)) (bind_kind again local kind)

-- ---- what sockets tell

module _ {G : Type 0} (calls : G → Option NetCalls) (send : NetCall) where
  -- one socket behind the others, on which the datagram was sent
  pub told_behind : (sockets : List G) (socket : G) (fault : Option IoKind) → AreTold calls send sockets None
      → Tells (calls socket) (record { made = send ∷ []; fault = fault }) → AreTold calls send (sockets ++ socket ∷ []) fault
  told_behind [] socket fault h tells = (fault, None, tells, refl, refl)
  told_behind (first ∷ sockets) socket fault (own, others, this, those, none) tells = (
    own,
    fault,
    this,
    told_behind sockets socket fault (subst (λ o. AreTold calls send sockets o) (no_last own others none) those) tells,
    sym (ap (λ o. last_fault o fault) (no_first own others none) ∙ last_first fault),
  )

  -- one of the sockets was waited on
  pub told_turn : (sockets : List G) (at : ℕ) (old new : G) (fault : Option IoKind) → at < length sockets → old ≡ get_or sockets at old
      → IsToldWith (calls old) (record { made = []; fault = fault }) (calls new) → AreTold calls send sockets None
      → AreTold calls send (set sockets at new) fault
  told_turn [] at old new fault inside read told h = absurd (omega arith)
  told_turn (first ∷ sockets) zero old new fault inside read told (own, others, this, those, none) =
      let before : Tells (calls old) (record { made = send ∷ []; fault = own }) = subst
      (λ s. Tells (calls s) (record { made = send ∷ []; fault = own })) (sym read) this in
      let after : Tells (calls new) (record { made = send ∷ []; fault = last_fault own fault }) = tells_then (calls old) (calls new)
      (record { made = send ∷ []; fault = own }) (record { made = []; fault = fault }) before told in (
        fault,
        None,
        subst (λ o. Tells (calls new) (record { made = send ∷ []; fault = o }))
            (ap (λ o. last_fault o fault) (no_first own others none) ∙ last_first fault) after,
        subst (λ o. AreTold calls send sockets o) (no_last own others none) those,
        refl,
      )
  told_turn (first ∷ sockets) (suc at) old new fault inside read told (own, others, this, those, none) = (
    own,
    fault,
    this,
    told_turn sockets at old new fault (omega arith) read told
        (subst (λ o. AreTold calls send sockets o) (no_last own others none) those),
    sym (ap (λ o. last_fault o fault) (no_first own others none) ∙ last_first fault),
  )

  -- what is still to be given back, where as much is told in the end
  pub record IsGivingBack (before : Option NetCalls) (now : Option NetCalls) (sockets : List G) (all : NetCalls) : Type 0 where
    pub back : NetCalls
    pub fault : Option IoKind
    pub dialed : IsToldWith before back now
    pub sent : AreTold calls send sockets fault
    pub same : calls_with_sends back (length sockets) send fault ≡ all

  pub giving_first : (before now : Option NetCalls) (sockets : List G) (back : NetCalls) (fault : Option IoKind)
      → IsToldWith before back now → AreTold calls send sockets fault
      → IsGivingBack before now sockets (calls_with_sends back (length sockets) send fault)
  giving_first before now sockets back fault dialed sent = record {
    back = back;
    fault = fault;
    dialed = dialed;
    sent = sent;
    same = refl;
  }

  pub giving_one : (before mid now : Option NetCalls) (socket : G) (sockets : List G) (all : NetCalls)
      → IsGivingBack before mid (socket ∷ sockets) all → IsToldWithThose mid (calls socket) now → IsGivingBack before now sockets all
  giving_one before mid now socket sockets all h those = by_parts h.sent
    where
      by_parts : AreTold calls send (socket ∷ sockets) h.fault → IsGivingBack before now sockets all
      by_parts (own, others, this, rest, last) = record {
        back = and_calls h.back (record { made = send ∷ []; fault = own });
        fault = others;
        dialed = told_those before mid (calls socket) now h.back (record { made = send ∷ []; fault = own }) h.dialed this those;
        sent = rest;
        same = calls_shift h.back (record { made = send ∷ []; fault = own })
            (record { made = replicate (length sockets) send; fault = others })
            ∙ ap (λ o. and_calls h.back (record { made = send ∷ replicate (length sockets) send; fault = o })) (sym last) ∙ h.same;
      }

  pub giving_last : (before now : Option NetCalls) (all : NetCalls) → IsGivingBack before now [] all → IsToldWith before all now
  giving_last before now all h =
      let none : and_calls h.back no_calls ≡ all =
      ap (λ o. and_calls h.back (record { made = []; fault = o })) (sym h.sent) ∙ h.same in
      told_same before now (and_calls h.back no_calls) all none
      (told_then before now now h.back no_calls h.dialed (told_none now))

-- ---- sockets that are asked for

tried_made : {R G : Type 0} (draw : R → ℕ → R → Type 0) (binding : BindingValue) (from to : R) (before after refused : ℕ)
    (calls : NetCalls) (socket : G) → AreTried draw binding from to before after refused calls (Ok socket)
    → AreTried {G = Unit {0}} draw binding from to before after refused calls (Ok tt)
tried_made draw binding from to before after refused calls socket h = record {
  again = h.again;
  mid = h.mid;
  attempted = h.attempted;
  refusals = h.refusals;
  local = h.local;
  last = h.last;
  few = h.few;
  count = h.count;
  ended = tt;
  asked = h.asked;
}

tried_refused : {R G : Type 0} (draw : R → ℕ → R → Type 0) (binding : BindingValue) (from to : R) (before after refused : ℕ)
    (calls : NetCalls) (kind : IoKind) → AreTried {G = G} draw binding from to before after refused calls (Err kind)
    → AreTried {G = Unit {0}} draw binding from to before after refused calls (Err kind)
tried_refused draw binding from to before after refused calls kind h = record {
  again = h.again;
  mid = h.mid;
  attempted = h.attempted;
  refusals = h.refusals;
  local = h.local;
  last = h.last;
  few = h.few;
  count = h.count;
  ended = h.ended;
  asked = h.asked;
}

module _ {G R : Type 0} (plan : AskPlan G R) (before : Option NetCalls) (from : R) where
  -- nothing was asked yet
  pub asks_nothing : (sockets : List G) → sockets ≡ []
      → CallAsks plan before from (record { told = before; draws = from; sockets = sockets }) true None None
  asks_nothing [] none = record {
    made = 0;
    binds = no_calls;
    asked_for = NoSocket;
    dialed = told_none before;
    sent = refl;
    many = refl;
    last_is = refl;
  }
  asks_nothing (socket ∷ sockets) none = absurd (cc)

  module _ (old now : AskState G R) (last : Option IoKind) (h : CallAsks plan before from old true None last) where
    -- no socket was made
    pub asks_refused : (after refused : ℕ) (more : NetCalls) (kind : IoKind) (error : NetError)
        → AreTried {G = G} plan.draw plan.binding old.draws now.draws 0 after refused more (Err kind)
        → IsToldWith old.told more now.told → now.sockets ≡ old.sockets → error ≡ outside_failed kind
        → AsksOn plan before from now (Some (Err (error_of error)))
    asks_refused after refused more kind error tried told kept same =
        let by_kind : more.fault ≡ Some kind = ap (λ (c : NetCalls). c.fault) tried.asked ∙ bind_kind tried.again tried.local kind in
        let binds = and_calls h.binds more in
        inr (
          false,
          None,
          Some kind,
          record {
            made = h.made;
            binds = binds;
            asked_for = AndRefused old.draws now.draws h.made after refused h.binds more kind h.asked_for
                (tried_refused plan.draw plan.binding old.draws now.draws 0 after refused more kind tried);
            dialed = told_then before old.told now.told h.binds more h.dialed told;
            sent = rw kept h.sent;
            many = rw kept h.many;
            last_is = sym (ap (last_fault h.binds.fault) by_kind);
          },
          rw same (kind_told false None (Some kind) kind refl),
        )

    -- one was made, and the datagram sent on it
    made_asks : (after refused : ℕ) (more : NetCalls) (socket made_socket : G) (fault : Option IoKind)
        → AreTried plan.draw plan.binding old.draws now.draws 0 after refused more (Ok made_socket)
        → IsToldWith old.told more now.told → now.sockets ≡ old.sockets ++ socket ∷ []
        → Tells (plan.calls socket) (record { made = plan.send ∷ []; fault = fault })
        → CallAsks plan before from now true fault (last_fault (last_fault h.binds.fault more.fault) fault)
    made_asks after refused more socket made_socket fault tried told grown tells = record {
      made = h.made + 1;
      binds = and_calls h.binds more;
      asked_for = AndMade old.draws now.draws h.made after refused h.binds more h.asked_for
          (tried_made plan.draw plan.binding old.draws now.draws 0 after refused more made_socket tried);
      dialed = told_then before old.told now.told h.binds more h.dialed told;
      sent = rw grown (told_behind plan.calls plan.send old.sockets socket fault h.sent tells);
      many =
          let a = length-append old.sockets (socket ∷ []) in
          let b : length now.sockets ≡ length (old.sockets ++ socket ∷ []) = ap length grown in
          let c = h.many in
          omega arith;
      last_is = refl;
    }

    sent_kind : (error : NetError) (before_kind fault : Option IoKind)
        → (((error ≡ Message NotAllBytesSent) × (fault ≡ None))
        ⊎ ((kind : IoKind) × (error ≡ outside_failed kind) × (fault ≡ Some kind)))
        → HasKind true fault (last_fault before_kind fault) (Err (error_of error))
    sent_kind error before_kind fault (inl short) = rw short.0 tt
    sent_kind error before_kind fault (inr (kind, same, by_kind)) =
        rw same (kind_told true fault (last_fault before_kind fault) kind (ap (last_fault before_kind) by_kind))

    pub asks_made : (after refused : ℕ) (more : NetCalls) (socket made_socket : G) (fault : Option IoKind)
        (result : Result Unit NetError)
        → AreTried plan.draw plan.binding old.draws now.draws 0 after refused more (Ok made_socket)
        → IsToldWith old.told more now.told → now.sockets ≡ old.sockets ++ socket ∷ []
        → Tells (plan.calls socket) (record { made = plan.send ∷ []; fault = fault }) → IsSentWith fault result
        → AsksOn plan before from now (failure result)
    asks_made after refused more socket made_socket fault (Ok done) tried told grown tells sent = (
      last_fault h.binds.fault more.fault,
      subst (λ o. CallAsks plan before from now true o (last_fault (last_fault h.binds.fault more.fault) o)) sent
          (made_asks after refused more socket made_socket fault tried told grown tells),
    )
    asks_made after refused more socket made_socket fault (Err error) tried told grown tells sent = inr (
      true,
      fault,
      last_fault (last_fault h.binds.fault more.fault) fault,
      made_asks after refused more socket made_socket fault tried told grown tells,
      sent_kind error (last_fault h.binds.fault more.fault) fault sent,
    )

    -- a socket was waited on and failed
    pub asks_failed : (kind : IoKind) → now.told ≡ old.told → now.draws ≡ old.draws → length now.sockets ≡ length old.sockets
        → AreTold plan.calls plan.send now.sockets (Some kind)
        → AsksOn plan before from now (Some (Err (error_of (outside_failed kind))))
    asks_failed kind same drawn many sent = inr (
      true,
      Some kind,
      Some kind,
      record {
        made = h.made;
        binds = h.binds;
        asked_for = rw drawn h.asked_for;
        dialed = rw same h.dialed;
        sent = sent;
        many = h.many ∙ sym many;
        last_is = refl;
      },
      kind_told true (Some kind) (Some kind) kind refl,
    )

    -- it was waited on, and didn't
    pub asks_heard : now.told ≡ old.told → now.draws ≡ old.draws → length now.sockets ≡ length old.sockets
        → AreTold plan.calls plan.send now.sockets None → CallAsks plan before from now true None last
    asks_heard same drawn many sent = record {
      made = h.made;
      binds = h.binds;
      asked_for = rw drawn h.asked_for;
      dialed = rw same h.dialed;
      sent = sent;
      many = h.many ∙ sym many;
      last_is = h.last_is;
    }

    -- it was waited on, and a datagram came that was judged
    pub asks_judged : (request : RequestValue) (server : SocketAddr) (datagram : DatagramValue)
        (result : Option (Result ResponseValue NetError)) → Judges request server datagram result
        → CallAsks plan before from now true None last → AsksOn plan before from now (answer result)
    asks_judged request server datagram None judged heard = (last, heard)
    asks_judged request server datagram (Some (Ok response)) judged heard = inr (true, None, last, heard, tt)
    asks_judged request server datagram (Some (Err error)) (inl none) heard = rw none (inl refl)
    asks_judged request server datagram (Some (Err error)) (inr (inl mismatched)) heard =
        rw mismatched.0 (inr (true, None, last, heard, tt))
    asks_judged request server datagram (Some (Err error)) (inr (inr undecoded)) heard =
        rw undecoded.1 (inr (true, None, last, heard, tt))

-- ---- a whole call

module _ {R : Type 0} (draw : R → ℕ → R → Type 0) (binding : BindingValue) (asked : AskedValue) (before now : Option NetCalls)
    (from : R) where
  -- the sockets were given back
  pub asks_over : {G : Type 0} (calls : G → Option NetCalls) (bytes : List ℕ) (mid : AskState G R) (reply : Reply)
      → AsksOn (ask_plan calls draw binding (Send bytes asked.server)) before from mid (Some reply)
      → GivesBack calls mid.sockets mid.told now → encoded asked.request.message ≡ Ok bytes
      → AsksAll draw binding asked before now from mid.draws reply
  asks_over calls bytes mid reply (inl none) back written = inl none
  asks_over calls bytes mid reply (inr (all, fault, last, h, kind)) back written = inr (record {
    made = h.made;
    all = all;
    binds = h.binds;
    sockets = h.asked_for;
    bytes = bytes;
    written = inr written;
    fault = fault;
    told = subst (λ n. IsToldWith before (calls_with_sends h.binds n (Send bytes asked.server) fault) now) (sym h.many)
        (back (Send bytes asked.server) before h.binds fault h.dialed h.sent);
    kind = subst (λ l. HasKind all fault l reply) h.last_is kind;
  })

-- the request couldn't be encoded, and nothing was asked
pub asks_none : {R : Type 0} (draw : R → ℕ → R → Type 0) (binding : BindingValue) (asked : AskedValue) (now : Option NetCalls)
    (from : R) (error : NetError) → IsEncoded asked.request.message (Err error)
    → AsksAll draw binding asked now now from from (Err (error_of error))
asks_none draw binding asked now from error (inl none) = inl (rw none refl)
asks_none draw binding asked now from error (inr long) = inr (record {
  made = 0;
  all = true;
  binds = no_calls;
  sockets = NoSocket;
  bytes = [];
  written = inl refl;
  fault = None;
  told = told_none now;
  kind = rw long.1 tt;
})
