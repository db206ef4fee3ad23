-- What a port over datagrams takes from its socket, and what it sends by it (RFC 1035, 4.2.1).
use Rattle.std.specs.Prelude.{ℕ, ◌≡◌, List, [], ◌∷◌, length, take, Option, None, Some, Result, Ok, Err}
use Rattle.std.specs.declared.net.socket_addr.SocketAddr.{SocketAddr}
use Rattle.dns_model.specs.Counts.{RoseBy}
use Rattle.dns_handle.specs.declared.io_kind.IoKind.{IoKind}
use Rattle.dns_link.specs.Calls.{IsToldWith, NetCalls, answered}
use Rattle.dns_link.specs.Counts.{CountsValue, after_send, with_fault, with_got}
use Rattle.dns_link.specs.Moved.{DatagramValue, and_then}
use Rattle.dns_link.specs.declared.net_call.NetCall.TheVariants.{Send}
use Rattle.dns_ports.specs.declared.port.PortFault.{PortFault}
use Rattle.dns_ports.specs.declared.port.PortFault.TheVariants.{Io, NoMemory}

-- what is told of a socket
pub record SocketView (D : Type 0) : Type 0 where
  pub counts : D → CountsValue
  pub given : D → Option (List DatagramValue)
  pub calls : D → Option NetCalls

abbrev pub socket_view : {D : Type 0} → (D → CountsValue) → (D → Option (List DatagramValue)) → (D → Option NetCalls) → SocketView D
socket_view counts given calls = record { counts = counts; given = given; calls = calls }

-- so often in a row nothing may come
abbrev pub most_waits : ℕ
most_waits = 600

-- so many waits for a datagram, or more, brought none, and nothing else was counted
pub record WasQuiet (waits : ℕ) (met now : CountsValue) : Type 0 where
  pub quiet : RoseBy waits met.quiet now.quiet
  pub kept : now ≡ record met { quiet = now.quiet }

-- how the wait for a datagram ended
pub data Waited {D : Type 0} (seen : SocketView D) (old new : D) (came : Result (Option DatagramValue) IoKind) : Type 0 where
  -- one came
  OneCame : (datagram : DatagramValue) (before : CountsValue) → WasQuiet 0 (seen.counts old) before
      → seen.counts new ≡ with_got before → seen.given new ≡ and_then (seen.given old) (datagram ∷ [])
      → came ≡ Ok (Some datagram) → Waited seen old new came
  -- as often in a row as it may be, none came
  NoneCame : WasQuiet most_waits (seen.counts old) (seen.counts new) → seen.given new ≡ seen.given old → came ≡ Ok None
      → Waited seen old new came
  -- the socket failed
  Failed : (kind : IoKind) (before : CountsValue) → WasQuiet 0 (seen.counts old) before
      → seen.counts new ≡ with_fault before → seen.given new ≡ seen.given old → came ≡ Err kind → Waited seen old new came

-- the datagram that a call put into a buffer
abbrev pub came_in : Result (Option (ℕ × SocketAddr)) IoKind → List ℕ → Result (Option DatagramValue) IoKind
came_in (Ok (Some came)) buffer = Ok (Some (take came.0 buffer, came.1))
came_in (Ok None) buffer = Ok None
came_in (Err kind) buffer = Err kind

-- the request is the datagram that came, whose sender is kept
pub record CameFrom {D : Type 0} (seen : SocketView D) (old new : D) (client : Option SocketAddr) (request : List ℕ) : Type 0 where
  pub from : SocketAddr
  pub sender : client ≡ Some from
  pub waited : Waited seen old new (Ok (Some (request, from)))

-- memory ran out for a datagram that came
pub record WasLost {D : Type 0} (seen : SocketView D) (old new : D) : Type 0 where
  pub datagram : DatagramValue
  pub waited : Waited seen old new (Ok (Some datagram))

-- what a port gives by that
abbrev pub Receives : {D : Type 0} → SocketView D → D → D → Option SocketAddr → Result (Option (List ℕ)) PortFault → Type 0
Receives seen old new client (Ok (Some request)) = CameFrom seen old new client request
Receives seen old new client (Ok None) = Waited seen old new (Ok None)
Receives seen old new client (Err (Io kind)) = Waited seen old new (Err kind)
Receives seen old new client (Err NoMemory) = WasLost seen old new

-- bytes were sent to an address, whatever the socket answered
pub record SentTo {D : Type 0} (seen : SocketView D) (old new : D) (to : SocketAddr) (bytes : List ℕ) : Type 0 where
  pub answer : Result ℕ IoKind
  pub counts : seen.counts new ≡ after_send (length bytes) answer (seen.counts old)
  pub calls : IsToldWith (seen.calls old) (answered (Send bytes to) answer) (seen.calls new)
  pub given : seen.given new ≡ seen.given old

-- the same, where there is somebody to send them to
abbrev pub Sends : {D : Type 0} → SocketView D → D → D → Option SocketAddr → List ℕ → Type 0
Sends seen old new None bytes = new ≡ old
Sends seen old new (Some to) bytes = SentTo seen old new to bytes
