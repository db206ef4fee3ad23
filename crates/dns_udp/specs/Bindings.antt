-- The local address of a socket (RFC 5452, 9.2), and what making one meets.
use Rattle.std.specs.Prelude.{ℕ, ◌≡◌, ◌<◌, ◌≤◌, ◌+◌, ◌==◌, ◌&&◌, nat_lt, not, max, Bool, true, false, List, [], ◌∷◌, length, Result, Ok, Err, Option, None, Some, IfOk, IfErr}
use Rattle.std.specs.Net.Addr.{is_ipv4, MatchIp, IsUnspecifiedV4, IsUnspecifiedV6}
use Rattle.std.specs.Net.Socket.{socket_ip, socket_port}
use Rattle.std.specs.BTreeSet.{BTreeSet}
use Rattle.std.specs.declared.net.socket_addr.SocketAddr.{SocketAddr}
use Rattle.dns_handle.specs.declared.io_kind.IoKind.{IoKind}
use Rattle.dns_handle.specs.declared.io_kind.IoKind.TheVariants.{PermissionDenied, AddrInUse}
use Rattle.dns_link.specs.Calls.{IsToldWith, NetCalls, and_calls, answered, fault_of}
use Rattle.dns_link.specs.Counts.{CountsValue}
use Rattle.dns_link.specs.Moved.{DatagramValue, IsNew}
use Rattle.dns_link.specs.declared.net_call.NetCall.TheVariants.{Bind}
use Rattle.dns_multiplexer.specs.Draws.{Drawn}
use Rattle.dns_udp.specs.Ports.{IsNextPort, is_avoided}
use Rattle.dns_udp.specs.Met.{DialerView, Meets}

-- where sockets are bound: the local address, the ports that aren't taken, and whether the system chooses the port
pub record BindingValue : Type 0 where
  pub local : SocketAddr
  pub avoid : BTreeSet ℕ
  pub os_ports : Bool

-- every address of a server's family, and port 0
pub record IsAnyAddress (server local : SocketAddr) : Type 0 where
  pub family : is_ipv4 (socket_ip local) ≡ is_ipv4 (socket_ip server)
  pub unspecified : MatchIp (socket_ip local) IsUnspecifiedV4 IsUnspecifiedV6
  pub port : socket_port local ≡ 0

-- the local address that was chosen, or every address of the server's family
abbrev pub IsBoundAt : SocketAddr → Option SocketAddr → SocketAddr → Type 0
IsBoundAt server None local = IsAnyAddress server local
IsBoundAt server (Some bind) local = local ≡ bind

-- a socket was asked for at every address of a server's family, where the system chooses the port
pub record IsBoundFor {X : Type 0} (server : SocketAddr) (before now : Option NetCalls) (result : Result X IoKind) : Type 0 where
  pub local : SocketAddr
  pub any : IsAnyAddress server local
  pub told : IsToldWith before (answered (Bind local) result) now

-- a port is drawn for each try
abbrev pub draws_ports : BindingValue → Bool
draws_ports binding = (socket_port binding.local == 0) && not binding.os_ports

-- the address of the next try: with a port that is drawn, or as it was given; and the attempts before and after
abbrev pub IsNextLocalBy : {R : Type 0} → Bool → (R → ℕ → R → Type 0) → BindingValue → R → R → ℕ → ℕ → SocketAddr → Type 0
IsNextLocalBy true draw binding from to before after local =
    IsNextPort draw (is_avoided binding.avoid) from to before after (socket_port local)
    × (socket_ip local ≡ socket_ip binding.local)
IsNextLocalBy false draw binding from to before after local = (local ≡ binding.local) × (to ≡ from) × (after ≡ before)

-- ports were drawn one after another
pub record DrawsPorts {R : Type 0} (draw : R → ℕ → R → Type 0) (from to : R) : Type 0 where
  pub ports : List ℕ
  pub drawn : Drawn draw from ports to

-- another address may be given where this one wasn't
abbrev pub is_refusal : IoKind → Bool
is_refusal PermissionDenied = true
is_refusal AddrInUse = true
is_refusal _ = false

-- no bind is tried again after so many attempts
abbrev pub most_refused : ℕ
most_refused = 11

-- another bind is tried after a refusal
abbrev pub is_tried_again : ℕ → IoKind → Bool
is_tried_again attempted kind = nat_lt attempted most_refused && is_refusal kind

-- these binds were refused, each at its address and in its way, and each was tried again: a refusal is one attempt more
abbrev pub AreRefused : {R : Type 0} → (R → ℕ → R → Type 0) → BindingValue → R → R → ℕ → ℕ → List (SocketAddr × IoKind) → Type 0
AreRefused draw binding from to before after [] = (to ≡ from) × (after ≡ before)
AreRefused {R} draw binding from to before after (refusal ∷ refusals) =
    (mid : R) × (attempted : ℕ)
    × IsNextLocalBy (draws_ports binding) draw binding from mid before attempted refusal.0
    × (is_tried_again attempted refusal.1 ≡ true)
    × AreRefused draw binding mid to (attempted + 1) after refusals

-- those that were tried again, and the last one where none is made
abbrev pub all_refused : {X : Type 0} → Result X IoKind → ℕ → ℕ
all_refused (Ok made) again = again
all_refused (Err kind) again = again + 1

-- what a dialer is asked by these binds: each refusal that was tried again, and the last one with its fault, if there is one
abbrev pub bind_calls : List (SocketAddr × IoKind) → SocketAddr → Option IoKind → NetCalls
bind_calls [] local fault = record { made = Bind local ∷ []; fault = fault }
bind_calls (refusal ∷ refusals) local fault =
    and_calls (record { made = Bind refusal.0 ∷ []; fault = Some refusal.1 }) (bind_calls refusals local fault)

-- the binds of a socket: some were refused and tried again, at most eleven, and the last one is answered; no other bind is tried
-- after a refusal that is answered
pub record AreTried {R G : Type 0} (draw : R → ℕ → R → Type 0) (binding : BindingValue) (from to : R) (before after refused : ℕ)
    (calls : NetCalls) (result : Result G IoKind) : Type 0 where
  pub again : List (SocketAddr × IoKind)
  pub mid : R
  pub attempted : ℕ
  pub refusals : AreRefused draw binding from mid before attempted again
  pub local : SocketAddr
  pub last : IsNextLocalBy (draws_ports binding) draw binding mid to attempted after local
  pub few : before + length again ≤ max before most_refused
  pub count : refused ≡ all_refused result (length again)
  pub ended : IfErr result (λ kind. is_tried_again after kind ≡ false)
  pub asked : calls ≡ bind_calls again local (fault_of result)

-- so many faults and nothing else
abbrev pub only_faults : ℕ → CountsValue
only_faults n = record { faults = n; ends = 0; gots = 0; quiet = 0 }

-- what was met: so many refusals, and a socket that is new unless the last one is answered
pub record IsMadeAfter {G : Type 0} (counts : G → CountsValue) (given : G → Option (List DatagramValue)) (before now : DialerView)
    (refused : ℕ) (result : Result G IoKind) : Type 0 where
  pub met : Meets before.counts now.counts (only_faults refused)
  pub kept : now.given ≡ before.given
  pub made : IfOk result (λ socket. IsNew (counts socket) (given socket))
  pub failed : IfErr result (λ _. 0 < refused)

-- a socket was made, after so many refusals; or the last refusal is answered. Nothing else was asked of the dialer
pub record IsBound {R G : Type 0} (draw : R → ℕ → R → Type 0) (binding : BindingValue) (from to : R) (attempted after : ℕ)
    (counts : G → CountsValue) (given : G → Option (List DatagramValue)) (before now : DialerView) (told_before told_now : Option NetCalls)
    (result : Result G IoKind) : Type 0 where
  pub refused : ℕ
  pub calls : NetCalls
  pub tried : AreTried draw binding from to attempted after refused calls result
  pub met : IsMadeAfter counts given before now refused result
  pub told : IsToldWith told_before calls told_now
