-- What contracts see of an exchange.
use Rattle.std.specs.Prelude.{ℕ}
use Rattle.dns_tcp.specs.StreamViews.{link_of, state_of}
use Rattle.dns_multiplexer.specs.declared.multiplexer.DnsMultiplexer.{DnsMultiplexer}
use Rattle.dns_tcp.specs.declared.tcp_stream.TcpStream.{TcpStream}
use Rattle.dns_tcp.specs.declared.tcp_exchange.TcpExchange.{TcpExchange}
use Rattle.dns_multiplexer.specs.Multiplexers.{machine_of, draws_of}
use Rattle.dns_tcp.specs.Exchanges.{Parts}

-- what a stream and a multiplexer have in hands
abbrev pub parts_in : {L R : Type 0} → TcpStream L → DnsMultiplexer R → Parts L R
parts_in stream multiplexer = record {
  link = link_of stream;
  stream = state_of stream;
  core = machine_of multiplexer;
  draws = draws_of multiplexer;
}

abbrev pub parts_of : {L R : Type 0} → TcpExchange L R → Parts L R
parts_of exchange = parts_in exchange.stream exchange.multiplexer

-- how often `send` was called, and how many faults it answered
abbrev pub sends_of : {L R : Type 0} → TcpExchange L R → ℕ
sends_of exchange = exchange.sends

abbrev pub faults_of : {L R : Type 0} → TcpExchange L R → ℕ
faults_of exchange = exchange.faults
