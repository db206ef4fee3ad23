-- What contracts see of a datagram stream.
use Rattle.std.specs.Prelude.{List}
use Rattle.dns_multiplexer.specs.Messages.{SerialMessageValue}
use Rattle.dns_udp.specs.declared.udp_stream.UdpStream.{UdpStream}

-- the socket that carries it
abbrev pub socket_of : {G : Type 0} → UdpStream G → G
socket_of stream = stream.socket

-- the messages that wait to be sent
abbrev pub queue_of : {G : Type 0} → UdpStream G → List SerialMessageValue
queue_of stream = stream.queue
