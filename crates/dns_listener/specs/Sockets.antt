-- What contracts see of listeners and ports over std's sockets.
use Rattle.dns_listener.specs.Listening.{ListenerCounts, PortCountsValue}
use Rattle.dns_listener.specs.Ports.{datagrams_met, stream_met}
use Rattle.dns_listener.specs.declared.socket_listener.SocketListener.{SocketListener}
use Rattle.dns_listener.specs.declared.socket_listener.SocketPort.{SocketPort}
use Rattle.dns_listener.specs.declared.socket_listener.SocketPort.TheVariants.{Datagrams, Stream}

abbrev pub socket_met : {R S L : Type 0} → SocketPort R S L → PortCountsValue
socket_met (Datagrams port) = datagrams_met port
socket_met (Stream port) = stream_met port

abbrev pub sockets_counts : {R S L : Type 0} → SocketListener R S L → ListenerCounts
sockets_counts listener = listener.tally
