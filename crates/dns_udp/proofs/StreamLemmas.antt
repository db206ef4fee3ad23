-- What a stream sends and receives.
use Rattle.std.proofs.Common.{◌≡◌, ℕ, List, [], ◌∷◌, drop, take, map, Option, None, Some, Result, Ok, Err, IfErr, refl, sym, ap, ◌∙◌, subst, append-nil, slice_get}
use Rattle.std.specs.declared.net.socket_addr.SocketAddr.{SocketAddr}
use Rattle.dns_handle.specs.declared.io_kind.IoKind.{IoKind}
use Rattle.dns_handle.specs.Conversions.{outside_failed}
use Rattle.dns_handle.specs.declared.error.NetError.{NetError}
use Rattle.dns_link.specs.Calls.{IsToldWith, NetCalls, and_calls, last_fault, no_calls, only_fault}
use Rattle.dns_link.specs.Counts.{CountsValue, after_receive}
use Rattle.dns_link.specs.Moved.{DatagramValue, and_then, received_by}
use Rattle.dns_multiplexer.specs.Messages.{SerialMessageValue}
use Rattle.dns_link.proofs.CallLemmas.{told_none, told_same, told_then}
use Rattle.dns_udp.specs.Streams.{AreSent, AreSentOnce, HasAsked, HasCome, IsKindOf, IsSentOnce, send_of}

-- the first message that waits is sent, and then the others
pub sent_first : (waiting rest : List SerialMessageValue) (message : SerialMessageValue) (a b c : CountsValue)
    → Some message ≡ slice_get waiting 0 → rest ≡ drop 1 waiting → IsSentOnce message a b → AreSentOnce rest b c
    → AreSentOnce waiting a c
sent_first [] rest message a b c first others sent later = absurd (cc)
sent_first (x ∷ waiting) rest message a b c first others sent later =
    let some : Some message ≡ Some x = first in
    let e : message ≡ x = cc in
    (b, subst (λ (m : SerialMessageValue). IsSentOnce m a b) e sent, rw others at later)

-- none waits
pub sent_none : (waiting : List SerialMessageValue) (a : CountsValue) → slice_get waiting 0 ≡ None
    → AreSentOnce waiting a a
sent_none [] a none = refl
sent_none (x ∷ waiting) a none = absurd (cc)

kept_given : (given : Option (List DatagramValue)) → and_then given [] ≡ given
kept_given None = refl
kept_given (Some told) = ap Some (append-nil told)

pub come_none : (a b : CountsValue) (given_before given_now : Option (List DatagramValue))
    (outcome : Option (ℕ × SocketAddr)) (buf : List ℕ)
    → outcome ≡ None → b ≡ after_receive (Ok outcome) a
    → given_now ≡ and_then given_before (received_by (Ok outcome) buf)
    → HasCome a b given_before given_now (Ok None)
come_none a b given_before given_now None buf h counts given = (counts, given ∙ kept_given given_before)
come_none a b given_before given_now (Some x) buf h counts given = absurd (cc)

pub come_some : (a b : CountsValue) (given_before given_now : Option (List DatagramValue))
    (outcome : Option (ℕ × SocketAddr))
    (came : ℕ × SocketAddr) (buf bytes : List ℕ) → outcome ≡ Some came → bytes ≡ take came.0 buf
    → b ≡ after_receive (Ok outcome) a → given_now ≡ and_then given_before (received_by (Ok outcome) buf)
    → HasCome a b given_before given_now (Ok (Some (record { bytes = bytes; addr = came.1 })))
come_some a b given_before given_now None came buf bytes h same counts given = absurd (cc)
come_some a b given_before given_now (Some x) came buf bytes h same counts given =
    let e : x ≡ came = cc in
    let moved : given_now ≡ and_then given_before ((take came.0 buf, came.1) ∷ []) =
    subst (λ (y : ℕ × SocketAddr). given_now ≡ and_then given_before ((take y.0 buf, y.1) ∷ [])) e given in
    (counts, moved ∙ ap (λ (l : List ℕ). and_then given_before ((l, came.1) ∷ [])) (sym same))

pub come_fault : (a b : CountsValue) (given_before given_now : Option (List DatagramValue)) (kind : IoKind)
    (error : NetError)
    → error ≡ outside_failed kind → b ≡ after_receive {D = ℕ × SocketAddr} (Err kind) a
    → given_now ≡ and_then given_before []
    → HasCome a b given_before given_now (Err error)
come_fault a b given_before given_now kind error same counts given =
    (kind, same, counts, given ∙ kept_given given_before)

-- ---- what is asked

-- the first message that waits is sent, and then the others
pub are_sent_first : (waiting rest : List SerialMessageValue) (message : SerialMessageValue) (a b c : Option NetCalls)
    → Some message ≡ slice_get waiting 0 → rest ≡ drop 1 waiting → AreSent (message ∷ []) a b → AreSent rest b c
    → AreSent waiting a c
are_sent_first [] rest message a b c first others sent later = absurd (cc)
are_sent_first (x ∷ waiting) rest message a b c first others sent later =
    let some : Some message ≡ Some x = first in
    let e : message ≡ x = cc in
    let this : AreSent (x ∷ []) a b = subst (λ (m : SerialMessageValue). AreSent (m ∷ []) a b) e sent in
    let those : AreSent waiting b c = rw others at later in
    record {
      fault = last_fault this.fault those.fault;
      told = told_then a b c (record { made = send_of x ∷ []; fault = this.fault })
          (record { made = map send_of waiting; fault = those.fault }) this.told those.told;
    }

-- none waits
pub are_sent_none : (waiting : List SerialMessageValue) (a : Option NetCalls) → slice_get waiting 0 ≡ None → AreSent waiting a a
are_sent_none [] a none = record { fault = None; told = told_none a }
are_sent_none (x ∷ waiting) a none = absurd (cc)

last_kind : (before fault : Option IoKind) (error : NetError) → IsKindOf fault error → IsKindOf (last_fault before fault) error
last_kind before None error h = absurd h
last_kind before (Some kind) error h = h

kind_then : {X : Type 0} (before fault : Option IoKind) (result : Result X NetError) → IfErr result (IsKindOf fault)
    → IfErr result (IsKindOf (last_fault before fault))
kind_then before fault (Ok x) h = tt
kind_then before fault (Err error) h = last_kind before fault error h

-- all that waits is sent, and then a datagram is waited for
pub asked_then : {X : Type 0} (waiting : List SerialMessageValue) (a b c : Option NetCalls) (result : Result X NetError)
    → AreSent waiting a b → HasAsked [] b c result → HasAsked waiting a c result
asked_then waiting a b c result sent waited = record {
  fault = last_fault sent.fault waited.fault;
  told = told_same a c
      (and_calls (record { made = map send_of waiting; fault = sent.fault }) (record { made = []; fault = waited.fault }))
      (record { made = map send_of waiting; fault = last_fault sent.fault waited.fault })
      (ap (λ made. record { made = made; fault = last_fault sent.fault waited.fault }) (append-nil (map send_of waiting)))
      (told_then a b c (record { made = map send_of waiting; fault = sent.fault }) (record { made = []; fault = waited.fault })
      sent.told waited.told);
  kind = kind_then sent.fault waited.fault result waited.kind;
}
