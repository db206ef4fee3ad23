-- For private functions only: what a call has asked of its dialer and of its sockets, while it goes on and where it is over.
use Rattle.std.specs.Prelude.{ℕ, ◌≡◌, ◌⊎◌, Bool, true, List, [], ◌∷◌, length, Option, None, Some, Result, Ok, Err}
use Rattle.dns_handle.specs.Conversions.{outside_failed}
use Rattle.dns_handle.specs.Errors as seen
use Rattle.dns_handle.specs.Errors.{Reply}
use Rattle.dns_handle.specs.Replies.{error_of, reply_of}
use Rattle.dns_handle.specs.declared.error.NetError.{NetError}
use Rattle.dns_handle.specs.declared.error.NetError.TheVariants.{Message}
use Rattle.dns_handle.specs.declared.io_kind.IoKind.{IoKind}
use Rattle.dns_handle.specs.declared.notice.Notice.TheVariants.{NotAllBytesSent}
use Rattle.dns_link.specs.Calls.{IsToldWith, NetCalls, Tells, last_fault}
use Rattle.dns_link.specs.declared.net_call.NetCall.{NetCall}
use Rattle.dns_model.specs.SoundAnswers.{ResponseValue}
use Rattle.dns_udp.specs.Bindings.{BindingValue}
use Rattle.dns_udp.specs.Conversations.{AreAskedFor, HasKind, calls_with_sends}

-- what a call may ask: sockets by these draws and this binding, and on each of them this datagram
pub record AskPlan (G R : Type 0) : Type 1 where
  pub calls : G → Option NetCalls
  pub draw : R → ℕ → R → Type 0
  pub binding : BindingValue
  pub send : NetCall

abbrev pub ask_plan : {G R : Type 0} → (G → Option NetCalls) → (R → ℕ → R → Type 0) → BindingValue → NetCall → AskPlan G R
ask_plan calls draw binding send = record { calls = calls; draw = draw; binding = binding; send = send }

-- what a dialer tells, the draws, and the sockets that are open
pub record AskState (G R : Type 0) : Type 0 where
  pub told : Option NetCalls
  pub draws : R
  pub sockets : List G

abbrev pub ask_state : {D G R : Type 0} → (D → Option NetCalls) → D → R → List G → AskState G R
ask_state calls dial draws sockets = record { told = calls dial; draws = draws; sockets = sockets }

-- on each of the sockets the datagram was sent once, and nothing else; and the kind of the fault that one of them met
abbrev pub AreTold : {G : Type 0} → (G → Option NetCalls) → NetCall → List G → Option IoKind → Type 0
AreTold calls send [] fault = fault ≡ None
AreTold calls send (socket ∷ sockets) fault =
    (own : Option IoKind) × (others : Option IoKind) × Tells (calls socket) (record { made = send ∷ []; fault = own })
    × AreTold calls send sockets others × (fault ≡ last_fault own others)

-- a datagram was sent: whole, in part, or not at all
abbrev pub IsSentWith : {X : Type 0} → Option IoKind → Result X NetError → Type 0
IsSentWith fault (Ok done) = fault ≡ None
IsSentWith fault (Err error) =
    ((error ≡ Message NotAllBytesSent) × (fault ≡ None)) ⊎ ((kind : IoKind) × (error ≡ outside_failed kind) × (fault ≡ Some kind))

-- it was sent once
pub record IsSentAs {X : Type 0} (send : NetCall) (before now : Option NetCalls) (result : Result X NetError) : Type 0 where
  pub fault : Option IoKind
  pub told : IsToldWith before (record { made = send ∷ []; fault = fault }) now
  pub kind : IsSentWith fault result

-- what was asked since a call began: sockets that are open, and on each the datagram. Where `all` is false, one more socket couldn't
-- be made. `fault` is the kind of an open socket's fault, and `last` that of the last fault of all
pub record CallAsks {G R : Type 0} (plan : AskPlan G R) (before : Option NetCalls) (from : R) (now : AskState G R) (all : Bool)
    (fault last : Option IoKind) : Type 0 where
  pub made : ℕ
  pub binds : NetCalls
  pub asked_for : AreAskedFor plan.draw plan.binding from now.draws made all binds
  pub dialed : IsToldWith before binds now.told
  pub sent : AreTold plan.calls plan.send now.sockets fault
  pub many : made ≡ length now.sockets
  pub last_is : last ≡ last_fault binds.fault fault

-- a call goes on, and nothing that was made has failed; or it is over by a reply, with the kind of its fault. Memory may have run out
abbrev pub AsksOn : {G R : Type 0} → AskPlan G R → Option NetCalls → R → AskState G R → Option Reply → Type 0
AsksOn plan before from now None = (last : Option IoKind) × CallAsks plan before from now true None last
AsksOn plan before from now (Some reply) =
    (reply ≡ Err seen.NoMemory)
    ⊎ ((all : Bool) × (fault : Option IoKind) × (last : Option IoKind) × CallAsks plan before from now all fault last
    × HasKind all fault last reply)

-- a step of a call that has asked what it may
abbrev pub AsksMore : {G R : Type 0} → AskPlan G R → AskState G R → AskState G R → Option Reply → Type 0
AsksMore {R} plan old now outcome =
    (before : Option NetCalls) → (from : R) → (last : Option IoKind) → CallAsks plan before from old true None last
    → AsksOn plan before from now outcome

-- how a step ends a call that fails, or doesn't
abbrev pub failure : {X : Type 0} → Result X NetError → Option Reply
failure (Ok done) = None
failure (Err error) = Some (Err (error_of error))

-- and one that is answered
abbrev pub answer : Option (Result ResponseValue NetError) → Option Reply
answer None = None
answer (Some result) = Some (reply_of result)

-- all sockets are given back to the dialer, which then tells what they sent
abbrev pub GivesBack : {G : Type 0} → (G → Option NetCalls) → List G → Option NetCalls → Option NetCalls → Type 0
GivesBack calls sockets old now =
    (send : NetCall) → (before : Option NetCalls) → (back : NetCalls) → (fault : Option IoKind) → IsToldWith before back old
    → AreTold calls send sockets fault → IsToldWith before (calls_with_sends back (length sockets) send fault) now
