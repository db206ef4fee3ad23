-- What dialing asks, and what it is answered.
use Rattle.std.specs.Prelude.{◌≡◌, ℕ, [], ◌∷◌, Option, None, Some, Result, Ok, Err}
use Rattle.std.specs.declared.net.socket_addr.SocketAddr.{SocketAddr}
use Rattle.dns_handle.specs.Conversions.{outside_failed}
use Rattle.dns_handle.specs.declared.error.NetError.{NetError}
use Rattle.dns_handle.specs.declared.io_kind.IoKind.{IoKind}
use Rattle.dns_link.specs.Calls.{IsToldWith, NetCalls}
use Rattle.dns_link.specs.Counts.{CountsValue, with_fault}
use Rattle.dns_link.specs.declared.net_call.NetCall.TheVariants.{Connect}

-- a link that is asked for: to a peer, from a local address if one is given, whose calls wait for so many milliseconds at most
pub record DialValue : Type 0 where
  pub peer : SocketAddr
  pub bind : Option SocketAddr
  pub timeout : ℕ

abbrev pub dial_to : SocketAddr → Option SocketAddr → ℕ → DialValue
dial_to peer bind timeout = record { peer = peer; bind = bind; timeout = timeout }

-- this link was asked for, and nothing else, and that was answered by such a fault or none
abbrev pub IsAskedFor : DialValue → Option NetCalls → Option NetCalls → Option IoKind → Type 0
IsAskedFor dial old new fault =
    IsToldWith old (record { made = Connect dial.peer dial.bind dial.timeout ∷ []; fault = fault }) new

-- a dialer that made a link counted nothing; a refusal is counted, and is what a fault of its kind is answered
abbrev pub IsDialed : {D X : Type 0} → (D → CountsValue) → (D → Option NetCalls) → DialValue → D → D → Result X NetError → Type 0
IsDialed counts calls dial old new (Ok made) = (counts new ≡ counts old) × IsAskedFor dial (calls old) (calls new) None
IsDialed counts calls dial old new (Err error) =
    (counts new ≡ with_fault (counts old))
    × (kind : IoKind) × (error ≡ outside_failed kind) × IsAskedFor dial (calls old) (calls new) (Some kind)
