-- What contracts see of ports.
use Rattle.std.specs.Prelude.{ℕ, ◌-◌, ◌^◌, ◌==◌, Bool, true, false, List, Option, None, Some, Result, Ok, Err, drop, length}
use Rattle.std.specs.declared.net.socket_addr.SocketAddr.{SocketAddr}
use Rattle.dns_tcp.specs.declared.tcp_stream.TcpStream.{TcpStream}
use Rattle.dns_model.specs.Counts.{one_more}
use Rattle.dns_handle.specs.declared.io_kind.IoKind.{IoKind}
use Rattle.dns_ports.specs.declared.port.Port as port
use Rattle.dns_listener.specs.Listening.{PortCountsValue, TrafficValue, traffic}
use Rattle.dns_listener.specs.declared.counted_port.CountedPort.{CountedPort}
use Rattle.dns_listener.specs.declared.datagram_port.DatagramPort.{DatagramPort}
use Rattle.dns_listener.specs.declared.stream_port.StreamPort.{StreamPort}

-- what a port met since it was made
abbrev pub counted_by : {P : Type 0} → CountedPort P → PortCountsValue
counted_by port = port.counts

-- the port that it counts for
abbrev pub port_in : {P : Type 0} → CountedPort P → P
port_in port = port.port

-- how many replies were sent by it
abbrev pub sent_count : {P : Type 0} → CountedPort P → ℕ
sent_count port = port.sent

-- one more where a reply was sent
abbrev pub sent_after : {X : Type 0} → Result X IoKind → ℕ → ℕ
sent_after (Ok done) count = one_more count
sent_after (Err kind) count = count

-- the last ones of a list, so many, or nothing
abbrev pub last_of : Bool → ℕ → List (List ℕ) → Option (List (List ℕ))
last_of true count told = None
last_of false count told = Some (drop (length told - count) told)

-- the last ones of what a port tells, so many; where the count stands at the greatest, nothing is told any more
abbrev pub last_ones : ℕ → Option (List (List ℕ)) → Option (List (List ℕ))
last_ones count None = None
last_ones count (Some told) = last_of (count == 2 ^ 64 - 1) count told

-- what came and went since it counts
abbrev pub traffic_since : {P : Type 0} → port.Ghosts P → CountedPort P → TrafficValue
traffic_since ports port = traffic (last_ones (counted_by port).gots (ports.received (port_in port)))
    (last_ones (sent_count port) (ports.replied (port_in port)))

-- ---- datagrams

abbrev pub datagrams_met : {D : Type 0} → DatagramPort D → PortCountsValue
datagrams_met port = port.counts

abbrev pub socket_of : {D : Type 0} → DatagramPort D → D
socket_of port = port.socket

-- who sent the request that was given last, and so has the next reply
abbrev pub client_of : {D : Type 0} → DatagramPort D → Option SocketAddr
client_of port = port.client

-- ---- a connection

abbrev pub stream_met : {L : Type 0} → StreamPort L → PortCountsValue
stream_met port = port.counts

abbrev pub stream_of : {L : Type 0} → StreamPort L → TcpStream L
stream_of port = port.stream
