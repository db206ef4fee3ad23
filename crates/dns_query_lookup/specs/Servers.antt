-- A question to one server: by datagrams, and over a connection where a response is truncated; or over connections alone
-- (RFC 1035, 4.2; RFC 7766, 5).
use Rattle.std.specs.Prelude.{ℕ, ◌≡◌, Bool, true, false, Some, Result, min}
use Rattle.std.specs.declared.net.socket_addr.SocketAddr.{SocketAddr}
use Rattle.dns_handle.specs.declared.handle.DnsHandle as handle
use Rattle.dns_multiplexer.specs.Draws.{seeded_draws}
use Rattle.dns_multiplexer.specs.declared.draws.RandDraws.{RandDraws}
use Rattle.dns_udp.specs.ClientStreams.{plain_builder}
use Rattle.dns_udp.specs.Exchanges.{IsExchangeOf}
use Rattle.dns_udp.specs.declared.exchange.UdpExchange.{UdpExchange}
use Rattle.dns_query_handle.specs.ConnectingHandles as connecting
use Rattle.dns_query_handle.specs.FallbackHandles as fallback
use Rattle.dns_query_handle.specs.declared.connecting_handle.ConnectingHandle.{ConnectingHandle}
use Rattle.dns_query_handle.specs.declared.fallback_handle.FallbackHandle.{FallbackHandle}
use Rattle.dns_anchor_keys.specs.declared.fault.AnchorsFault.{AnchorsFault}
use Rattle.dns_query_lookup.specs.CallValues.{CallValue}
use Rattle.dns_query_lookup.specs.LookedValues.{LookedValue}
use Rattle.dns_query_lookup.specs.Stacks.{AsksBelow, Stack}
use Rattle.dns_query_lookup.specs.declared.servers.Outside.{Outside}

-- for so many milliseconds a query waits
abbrev pub wait_of : CallValue → ℕ
wait_of call = min 5000 call.limit

-- a new handle that makes connections to the server, with ids that are drawn from the seed
abbrev pub IsConnecting : {E : Type 0} → CallValue → E → SocketAddr → ℕ → ConnectingHandle E RandDraws → Type 0
IsConnecting call connections server seed handle =
    connecting.parts_of handle ≡ record { dial = connections; draws = seeded_draws seed; server = server; timeout = wait_of call }

-- a handle that sends by datagrams first, and a question over it
pub record AsksByDatagrams {D E T : Type 0}
    (meanings : handle.Ghosts (Stack (FallbackHandle (UdpExchange D RandDraws) (ConnectingHandle E RandDraws)) T))
    (call : CallValue) (outside : Outside D E T) (server : SocketAddr) (seed : ℕ) (ended : Result LookedValue AnchorsFault) : Type 0 where
  pub both : FallbackHandle (UdpExchange D RandDraws) (ConnectingHandle E RandDraws)
  pub first : IsExchangeOf (record (plain_builder server) { timeout = Some (wait_of call) }) outside.datagrams (seeded_draws seed)
      (fallback.first_of both)
  pub second : IsConnecting call outside.connections server seed (fallback.second_of both)
  pub asks : AsksBelow meanings call both outside.deadline outside.notes ended

-- a question over connections alone
pub record AsksOverConnections {D E T : Type 0} (meanings : handle.Ghosts (Stack (ConnectingHandle E RandDraws) T)) (call : CallValue)
    (outside : Outside D E T) (server : SocketAddr) (seed : ℕ) (ended : Result LookedValue AnchorsFault) : Type 0 where
  pub only : ConnectingHandle E RandDraws
  pub connects : IsConnecting call outside.connections server seed only
  pub asks : AsksBelow meanings call only outside.deadline outside.notes ended

-- what is seen of the two handles that a question may go over
pub record Meanings (D E T : Type 0) : Type 1 where
  pub by_datagrams : handle.Ghosts (Stack (FallbackHandle (UdpExchange D RandDraws) (ConnectingHandle E RandDraws)) T)
  pub over_connections : handle.Ghosts (Stack (ConnectingHandle E RandDraws) T)

abbrev pub meanings_over : {D E T : Type 0} → handle.Ghosts (Stack (FallbackHandle (UdpExchange D RandDraws) (ConnectingHandle E RandDraws)) T)
    → handle.Ghosts (Stack (ConnectingHandle E RandDraws) T) → Meanings D E T
meanings_over by_datagrams over_connections = record { by_datagrams = by_datagrams; over_connections = over_connections }

-- a question over connections alone, or by datagrams first
abbrev pub AsksServer : {D E T : Type 0} → Meanings D E T → CallValue → Outside D E T → SocketAddr → ℕ → Result LookedValue AnchorsFault
    → Bool → Type 0
AsksServer meanings call outside server seed ended true =
    AsksOverConnections meanings.over_connections call outside server seed ended
AsksServer meanings call outside server seed ended false =
    AsksByDatagrams meanings.by_datagrams call outside server seed ended
