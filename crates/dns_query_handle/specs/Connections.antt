-- A request over a connection of its own (RFC 1035, 4.2.2; RFC 7766, 6).
use Rattle.std.specs.Prelude.{ℕ, ◌≡◌, [], List, Option, None, Some, Err}
use Rattle.std.specs.declared.net.socket_addr.SocketAddr.{SocketAddr}
use Rattle.dns_handle.specs.Conversions.{outside_failed}
use Rattle.dns_handle.specs.Errors.{Reply}
use Rattle.dns_handle.specs.Replies.{error_of}
use Rattle.dns_handle.specs.Requests.{RequestValue}
use Rattle.dns_handle.specs.declared.handle.DnsHandle as handle
use Rattle.dns_handle.specs.declared.io_kind.IoKind.{IoKind}
use Rattle.dns_link.specs.Calls.{IsToldWithThose, NetCalls}
use Rattle.dns_link.specs.Counts.{CountsValue, with_counts, with_fault}
use Rattle.dns_link.specs.Moved.{DatagramValue, IsNew, and_those}
use Rattle.dns_retry.specs.Retries.{SendsRequest}
use Rattle.dns_tcp.specs.Dialing.{IsAskedFor, dial_to}
use Rattle.dns_tcp.specs.Streams.{new_stream}
use Rattle.dns_tcp.specs.Making.{new_parts}
use Rattle.dns_tcp.specs.ExchangeParts as connection
use Rattle.dns_tcp.specs.declared.tcp_exchange.TcpExchange.{TcpExchange}
use Rattle.dns_query_handle.specs.declared.drawn_id.DrawnId.{DrawnId}

-- what is seen of a dialer, of the links that it makes, and of a handle over one
pub record Connections (D L : Type 0) : Type 1 where
  pub counts : D → CountsValue
  pub bytes : D → Option (List ℕ)
  pub came : D → Option (List DatagramValue)
  pub calls : D → Option NetCalls
  pub link_counts : L → CountsValue
  pub link_bytes : L → Option (List ℕ)
  pub link_calls : L → Option NetCalls
  pub over_connection : handle.Ghosts (TcpExchange L DrawnId)

abbrev pub connections : {D L : Type 0} → (D → CountsValue) → (D → Option (List ℕ)) → (D → Option (List DatagramValue))
    → (D → Option NetCalls) → (L → CountsValue) → (L → Option (List ℕ)) → (L → Option NetCalls) → handle.Ghosts (TcpExchange L DrawnId)
    → Connections D L
connections counts bytes came calls link_counts link_bytes link_calls over_connection = record {
  counts = counts;
  bytes = bytes;
  came = came;
  calls = calls;
  link_counts = link_counts;
  link_bytes = link_bytes;
  link_calls = link_calls;
  over_connection = over_connection;
}

-- the dialer refused to connect, which it was asked for once
pub record IsRefused {D L : Type 0} (seen : Connections D L) (server : SocketAddr) (timeout : ℕ) (old new : D) (reply : Reply) : Type 0 where
  pub kind : IoKind
  pub refused : reply ≡ Err (error_of (outside_failed kind))
  pub counts : seen.counts new ≡ with_fault (seen.counts old)
  pub bytes : seen.bytes new ≡ seen.bytes old
  pub came : seen.came new ≡ seen.came old
  pub asked : IsAskedFor (dial_to server None timeout) (seen.calls old) (seen.calls new) (Some kind)

-- a new handle over a new link sent the request under this id, and the dialer has the link back that it left; it was asked for that
-- link alone
pub record IsCarried {D L : Type 0} (seen : Connections D L) (server : SocketAddr) (timeout id : ℕ) (old new : D)
    (request : RequestValue) (now : ℕ) (reply : Reply) : Type 0 where
  pub link : L
  pub is_new : IsNew (seen.link_counts link) (seen.link_bytes link)
  pub first : TcpExchange L DrawnId
  pub last : TcpExchange L DrawnId
  pub made : connection.parts_of first ≡ new_parts link (new_stream server []) (record { id = id }) timeout None
  pub sent : SendsRequest seen.over_connection request now first reply last
  pub counts : seen.counts new ≡ with_counts (seen.counts old) (seen.link_counts (connection.parts_of last).link)
  pub bytes : seen.bytes new ≡ and_those (seen.bytes old) (seen.link_bytes (connection.parts_of last).link)
  pub came : seen.came new ≡ seen.came old
  pub dialed : Option NetCalls
  pub asked : IsAskedFor (dial_to server None timeout) (seen.calls old) dialed None
  pub told : IsToldWithThose dialed (seen.link_calls (connection.parts_of last).link) (seen.calls new)

-- a request over a connection that was made for it, or none was made
pub data AsksOver {D L : Type 0} (seen : Connections D L) (server : SocketAddr) (timeout id : ℕ) (old new : D)
    (request : RequestValue) (now : ℕ) (reply : Reply) : Type 0 where
  Refused : IsRefused seen server timeout old new reply → AsksOver seen server timeout id old new request now reply
  Carried : IsCarried seen server timeout id old new request now reply → AsksOver seen server timeout id old new request now reply
