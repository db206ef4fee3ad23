-- Datagrams as they are, over one socket (RFC 1035, 4.2.1).
use Rattle.std.specs.Prelude.{ℕ, ◌≡◌, Bool, List, [], ◌∷◌, length, map, Option, None, Some, Result, Ok, Err, IfErr, unwrap_or}
use Rattle.std.specs.BTreeSet.{BTreeSet}
use Rattle.std.specs.declared.net.socket_addr.SocketAddr.{SocketAddr}
use Rattle.dns_handle.specs.declared.io_kind.IoKind.{IoKind}
use Rattle.dns_handle.specs.Conversions.{outside_failed}
use Rattle.dns_handle.specs.declared.error.NetError.{NetError}
use Rattle.dns_link.specs.Calls.{IsToldWith, NetCalls}
use Rattle.dns_link.specs.Counts.{CountsValue, after_send, with_fault, with_got, with_quiet}
use Rattle.dns_link.specs.Moved.{DatagramValue, and_then}
use Rattle.dns_link.specs.declared.net_call.NetCall.{NetCall}
use Rattle.dns_link.specs.declared.net_call.NetCall.TheVariants.{Send}
use Rattle.dns_multiplexer.specs.Messages.{SerialMessageValue}
use Rattle.dns_multiplexer.specs.Queues.{StreamHandleValue}
use Rattle.dns_udp.specs.Bindings.{BindingValue, IsBound, IsBoundAt}
use Rattle.dns_udp.specs.Met.{DialerView}
use Rattle.dns_udp.specs.StreamViews.{socket_of, queue_of}
use Rattle.dns_udp.specs.declared.udp_stream.UdpStream.{UdpStream}

-- the most bytes of a datagram that is received
abbrev pub most_received : ℕ
most_received = 4096

-- where a stream's socket is bound: at the address that was chosen or every address of the server's family, and no port is
-- avoided unless some are named
pub record IsBindingFor (server : SocketAddr) (bind : Option SocketAddr) (avoid : Option (BTreeSet ℕ)) (os_ports : Bool)
    (binding : BindingValue) : Type 0 where
  pub local : IsBoundAt server bind binding.local
  pub avoided : binding.avoid ≡ unwrap_or avoid (record { keys = [] })
  pub by_system : binding.os_ports ≡ os_ports

-- a stream over the socket, with nothing to be sent, and a handle for its server; or the fault by which no socket was made
abbrev pub IsStreamOver : {G : Type 0} → SocketAddr → Result G IoKind → Result (UdpStream G × StreamHandleValue) NetError → Type 0
IsStreamOver remote (Ok socket) (Ok made) =
    (socket_of made.0 ≡ socket) × (queue_of made.0 ≡ []) × (made.1 ≡ record { addr = remote; buffer = 32 })
IsStreamOver remote (Err kind) (Err error) = error ≡ outside_failed kind
IsStreamOver remote _ _ = ⊥

-- a stream over a socket that is bound by the binding that was asked for
pub record IsStreamMade {R G : Type 0} (draw : R → ℕ → R → Type 0) (IsBinding : BindingValue → Type 0) (from to : R)
    (counts : G → CountsValue) (given : G → Option (List DatagramValue)) (remote : SocketAddr)
    (before now : DialerView) (told_before told_now : Option NetCalls) (result : Result (UdpStream G × StreamHandleValue) NetError) : Type 0 where
  pub binding : BindingValue
  pub chosen : IsBinding binding
  pub attempted : ℕ
  pub socket : Result G IoKind
  pub bound : IsBound draw binding from to 0 attempted counts given before now told_before told_now socket
  pub over : IsStreamOver remote socket result

-- a message was sent once, and something came of it
pub record IsSentOnce (message : SerialMessageValue) (before now : CountsValue) : Type 0 where
  pub outcome : Result ℕ IoKind
  pub counts : now ≡ after_send (length message.bytes) outcome before

-- each of the messages was sent once, one after another
abbrev pub AreSentOnce : List SerialMessageValue → CountsValue → CountsValue → Type 0
AreSentOnce [] before now = now ≡ before
AreSentOnce (message ∷ messages) before now =
    (mid : CountsValue) × IsSentOnce message before mid × AreSentOnce messages mid now

-- what one wait came to, with the socket's counts and datagrams before and after
abbrev pub HasCome : CountsValue → CountsValue → Option (List DatagramValue) → Option (List DatagramValue)
    → Result (Option SerialMessageValue) NetError → Type 0
HasCome before now given_before given_now (Ok None) = (now ≡ with_quiet before) × (given_now ≡ given_before)
HasCome before now given_before given_now (Ok (Some message)) =
    (now ≡ with_got before) × (given_now ≡ and_then given_before ((message.bytes, message.addr) ∷ []))
HasCome before now given_before given_now (Err error) =
    (kind : IoKind) × (error ≡ outside_failed kind) × (now ≡ with_fault before) × (given_now ≡ given_before)

-- each message that waited was sent once, and then one datagram was waited for
pub record HasReceived (waiting : List SerialMessageValue) (before now : CountsValue) (given_before given_now : Option (List DatagramValue))
    (result : Result (Option SerialMessageValue) NetError) : Type 0 where
  pub mid : CountsValue
  pub sent : AreSentOnce waiting before mid
  pub come : HasCome mid now given_before given_now result

-- ---- what is asked

abbrev pub send_of : SerialMessageValue → NetCall
send_of message = Send message.bytes message.addr

-- each of the messages was sent once, to its address, one after another, whatever came of it
pub record AreSent (messages : List SerialMessageValue) (before now : Option NetCalls) : Type 0 where
  pub fault : Option IoKind
  pub told : IsToldWith before (record { made = map send_of messages; fault = fault }) now

-- the error is what the last fault is answered
abbrev pub IsKindOf : Option IoKind → NetError → Type 0
IsKindOf None error = ⊥
IsKindOf (Some kind) error = error ≡ outside_failed kind

-- each message that waited was sent once, to its address; and a wait that failed is answered by its kind
pub record HasAsked {X : Type 0} (waiting : List SerialMessageValue) (before now : Option NetCalls) (result : Result X NetError) : Type 0 where
  pub fault : Option IoKind
  pub told : IsToldWith before (record { made = map send_of waiting; fault = fault }) now
  pub kind : IfErr result (IsKindOf fault)
