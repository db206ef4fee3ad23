-- What contracts see of a stream.
use Rattle.dns_tcp.specs.declared.tcp_stream.TcpStream.{TcpStream}
use Rattle.dns_tcp.specs.declared.tcp_client_stream.TcpClientStream.{TcpClientStream}
use Rattle.dns_tcp.specs.Streams.{StreamValue}

-- the link that carries it
abbrev pub link_of : {L : Type 0} → TcpStream L → L
link_of stream = stream.link

abbrev pub state_of : {L : Type 0} → TcpStream L → StreamValue
state_of stream = stream.state

-- the stream that a client has
abbrev pub stream_of : {L : Type 0} → TcpClientStream L → TcpStream L
stream_of client = client.stream
