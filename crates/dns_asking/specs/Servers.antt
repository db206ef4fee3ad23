-- A lookup over one server: by datagrams, or over one connection (RFC 1035, 4.2; RFC 7766, 6). Its handle begins at a dialer, and what the
-- handle met is what the dialer met that is given back.
use Rattle.std.specs.Prelude.{ℕ, ◌≡◌, [], List, Option, None, Some, Err}
use Rattle.std.specs.declared.net.socket_addr.SocketAddr.{SocketAddr}
use Rattle.dns_evidence.specs.declared.verifier.Verifier as verifier
use Rattle.dns_handle.specs.Conversions.{outside_failed}
use Rattle.dns_handle.specs.Errors.{Reply}
use Rattle.dns_handle.specs.Replies.{error_of}
use Rattle.dns_handle.specs.declared.handle.DnsHandle as handle
use Rattle.dns_handle.specs.declared.io_kind.IoKind.{IoKind}
use Rattle.dns_handle.specs.declared.protocol.Protocol.{Protocol}
use Rattle.dns_handle.specs.declared.protocol.Protocol.TheVariants.{Udp, Tcp}
use Rattle.dns_link.specs.Calls.{IsToldWithThose, NetCalls}
use Rattle.dns_link.specs.Counts.{CountsValue, with_counts, with_fault}
use Rattle.dns_link.specs.Moved.{DatagramValue, IsNew, and_those}
use Rattle.dns_tcp.specs.Dialing.{IsAskedFor, dial_to}
use Rattle.dns_tcp.specs.Streams.{new_stream}
use Rattle.dns_tcp.specs.Making.{new_parts}
use Rattle.dns_tcp.specs.ExchangeParts as connection
use Rattle.dns_tcp.specs.declared.tcp_exchange.TcpExchange.{TcpExchange}
use Rattle.dns_udp.specs.ClientStreams.{plain_builder}
use Rattle.dns_udp.specs.Exchanges as datagrams
use Rattle.dns_udp.specs.Exchanges.{IsExchangeOf}
use Rattle.dns_udp.specs.declared.exchange.UdpExchange.{UdpExchange}
use Rattle.dns_asking.specs.Addresses.{IsSocketOf}
use Rattle.dns_asking.specs.Lookups.{LooksUp}
use Rattle.dns_asking.specs.declared.address.ServerAddress.{ServerAddress}
use Rattle.dns_asking.specs.declared.inquiry.Inquiry.{Inquiry}

-- what is seen of a dialer, of the links that it makes, and of the two handles over them
pub record Network (D L R : Type 0) : Type 1 where
  pub counts : D → CountsValue
  pub bytes : D → Option (List ℕ)
  pub came : D → Option (List DatagramValue)
  pub calls : D → Option NetCalls
  pub link_counts : L → CountsValue
  pub link_bytes : L → Option (List ℕ)
  pub link_calls : L → Option NetCalls
  pub by_datagrams : handle.Ghosts (UdpExchange D R)
  pub over_connection : handle.Ghosts (TcpExchange L R)

abbrev pub network : {D L R : Type 0} → (D → CountsValue) → (D → Option (List ℕ)) → (D → Option (List DatagramValue))
    → (D → Option NetCalls) → (L → CountsValue) → (L → Option (List ℕ)) → (L → Option NetCalls) → handle.Ghosts (UdpExchange D R) → handle.Ghosts (TcpExchange L R) → Network D L R
network counts bytes came calls link_counts link_bytes link_calls by_datagrams over_connection = record {
  counts = counts;
  bytes = bytes;
  came = came;
  calls = calls;
  link_counts = link_counts;
  link_bytes = link_bytes;
  link_calls = link_calls;
  by_datagrams = by_datagrams;
  over_connection = over_connection;
}

-- a read or a write waits for so many milliseconds at most, and so does connecting
abbrev pub connection_timeout : ℕ
connection_timeout = 5000

-- by datagrams: a new handle over the dialer made the lookup, and the dialer that is given back is the one that it left
pub record AsksByDatagrams {D L R V : Type 0} (seen : Network D L R) (tests : verifier.Ghosts V) (server : SocketAddr) (inquiry : Inquiry V)
    (draws : R) (old new : D) (reply : Reply) : Type 0 where
  pub first : UdpExchange D R
  pub last : UdpExchange D R
  pub made : IsExchangeOf (plain_builder server) old draws first
  pub looked : LooksUp seen.by_datagrams tests inquiry first last reply
  pub back : new ≡ (datagrams.parts_of last).dial

-- the dialer refused to connect, which it was asked for once
pub record IsUnreached {D L R : Type 0} (seen : Network D L R) (server : SocketAddr) (old new : D) (reply : Reply) : Type 0 where
  pub kind : IoKind
  pub refused : reply ≡ Err (error_of (outside_failed kind))
  pub counts : seen.counts new ≡ with_fault (seen.counts old)
  pub bytes : seen.bytes new ≡ seen.bytes old
  pub came : seen.came new ≡ seen.came old
  pub asked : IsAskedFor (dial_to server None connection_timeout) (seen.calls old) (seen.calls new) (Some kind)

-- a new handle over a new link made the lookup, and the dialer that is given back has the link back that it left; it was asked for
-- that link alone
pub record IsConnected {D L R V : Type 0} (seen : Network D L R) (tests : verifier.Ghosts V) (server : SocketAddr)
    (inquiry : Inquiry V) (draws : R) (old new : D) (reply : Reply) : Type 0 where
  pub link : L
  pub is_new : IsNew (seen.link_counts link) (seen.link_bytes link)
  pub first : TcpExchange L R
  pub last : TcpExchange L R
  pub made : connection.parts_of first ≡ new_parts link (new_stream server []) draws connection_timeout None
  pub looked : LooksUp seen.over_connection tests inquiry first last reply
  pub counts : seen.counts new ≡ with_counts (seen.counts old) (seen.link_counts (connection.parts_of last).link)
  pub bytes : seen.bytes new ≡ and_those (seen.bytes old) (seen.link_bytes (connection.parts_of last).link)
  pub came : seen.came new ≡ seen.came old
  pub dialed : Option NetCalls
  pub asked : IsAskedFor (dial_to server None connection_timeout) (seen.calls old) dialed None
  pub told : IsToldWithThose dialed (seen.link_calls (connection.parts_of last).link) (seen.calls new)

-- over one connection, or none was made
pub data AsksOverConnection {D L R V : Type 0} (seen : Network D L R) (tests : verifier.Ghosts V) (server : SocketAddr)
    (inquiry : Inquiry V) (draws : R) (old new : D) (reply : Reply) : Type 0 where
  Unreached : IsUnreached seen server old new reply → AsksOverConnection seen tests server inquiry draws old new reply
  Reached : IsConnected seen tests server inquiry draws old new reply → AsksOverConnection seen tests server inquiry draws old new reply

-- a server at an address was asked
pub data AsksServer {D L R V : Type 0} (seen : Network D L R) (tests : verifier.Ghosts V) (address : ServerAddress) (inquiry : Inquiry V)
    (draws : R) (old new : D) (reply : Reply) : Protocol → Type 0 where
  ByDatagrams : (server : SocketAddr) → IsSocketOf address server → AsksByDatagrams seen tests server inquiry draws old new reply
      → AsksServer seen tests address inquiry draws old new reply Udp
  OverConnection : (server : SocketAddr) → IsSocketOf address server → AsksOverConnection seen tests server inquiry draws old new reply
      → AsksServer seen tests address inquiry draws old new reply Tcp
