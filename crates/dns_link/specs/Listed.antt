-- A datagram socket and a dialer in memory.
use Rattle.std.specs.Prelude.{ℕ, ◌≡◌, List, [], ◌∷◌, ◌++◌, length, min, take, ⊤, Option, None, Some, Result, Ok, Err}
use Rattle.std.specs.declared.net.socket_addr.SocketAddr.{SocketAddr}
use Rattle.dns_handle.specs.declared.io_kind.IoKind.{IoKind}
use Rattle.dns_handle.specs.declared.io_kind.IoKind.TheVariants.{AddrNotAvailable}
use Rattle.dns_link.specs.Calls.{NetCalls, Tells, no_calls}
use Rattle.dns_link.specs.Counts.{CountsValue, no_counts}
use Rattle.dns_link.specs.Moved.{DatagramValue, IsNew}
use Rattle.dns_link.specs.Plans.{PlanValue, planned}
use Rattle.dns_link.specs.Pairs.{PairLinkValue}

pub record ListDatagramsValue : Type 0 where
  -- the datagrams that came, each as far as it fitted the buffer, and those that are to come
  pub given : List DatagramValue
  pub incoming : List DatagramValue
  -- the calls that fail
  pub plan : PlanValue
  pub counts : CountsValue
  -- what was sent where, and the kind of the last fault; none once memory lacked for one
  pub calls : Option NetCalls

abbrev pub new_datagrams : List DatagramValue → List ℕ → ListDatagramsValue
new_datagrams incoming fails = record {
  given = [];
  incoming = incoming;
  plan = planned fails;
  counts = no_counts;
  calls = Some no_calls;
}

pub record ListDialerValue : Type 0 where
  pub links : List (Result PairLinkValue IoKind)
  pub sockets : List (Result ListDatagramsValue IoKind)
  pub counts : CountsValue
  -- what was asked of it, with what was sent by the sockets that it has back, and the kind of the last fault; none once memory lacked
  -- for one
  pub calls : Option NetCalls

abbrev pub IsNewLink : Result PairLinkValue IoKind → Type 0
IsNewLink (Ok link) = IsNew link.counts (Some link.pieces.given) × Tells link.calls no_calls
IsNewLink (Err kind) = ⊤

abbrev pub IsNewSocket : Result ListDatagramsValue IoKind → Type 0
IsNewSocket (Ok socket) = IsNew socket.counts (Some socket.given) × Tells socket.calls no_calls
IsNewSocket (Err kind) = ⊤

-- the first of a list, or that no address is there for more
abbrev pub first_or_refused : {X : Type 0} → List (Result X IoKind) → Result X IoKind
first_or_refused [] = Err AddrNotAvailable
first_or_refused (first ∷ rest) = first

-- a datagram came: as long as the first of those that are to come, as far as it fits into so much room, and from where that came
abbrev pub IsNext : List DatagramValue → ℕ → ℕ × SocketAddr → Type 0
IsNext [] room came = ⊥
IsNext (next ∷ rest) room came = (came.0 ≡ min room (length next.0)) × (came.1 ≡ next.1)

-- ---- for a private function only

-- the first datagram was taken out, put into a buffer as far as it fits, and put back so behind the others
abbrev pub IsReceived : List DatagramValue → List DatagramValue → Option (ℕ × SocketAddr) → List ℕ → Type 0
IsReceived old new None buffer = (old ≡ []) × (new ≡ [])
IsReceived [] new (Some came) buffer = ⊥
IsReceived (next ∷ rest) new (Some came) buffer =
    (came ≡ (min (length buffer) (length next.0), next.1)) × (new ≡ rest ++ (take came.0 buffer, next.1) ∷ [])
    × (take came.0 buffer ≡ take (length buffer) next.0)
