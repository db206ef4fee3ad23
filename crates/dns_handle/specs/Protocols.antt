-- What carries messages to a server and back (RFC 1035, 4.2).
use Rattle.std.specs.Prelude.{ℕ, Bool, true, false, List, codes}
use Rattle.dns_handle.specs.declared.protocol.Protocol.{Protocol}
use Rattle.dns_handle.specs.declared.protocol.Protocol.TheVariants.{Udp, Tcp}

-- one datagram for each message (RFC 1035, 4.2.1)
abbrev pub is_datagram : Protocol → Bool
is_datagram Udp = true
is_datagram Tcp = false

-- a connection (RFC 1035, 4.2.2)
abbrev pub is_stream : Protocol → Bool
is_stream Udp = false
is_stream Tcp = true

abbrev pub protocol_text : Protocol → List ℕ
protocol_text Udp = codes "udp"
protocol_text Tcp = codes "tcp"
