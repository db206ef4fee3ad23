-- A client: a handle, and whether its requests are to have an OPT record (RFC 6891, 6.1.1).
use Rattle.std.specs.Prelude.{ℕ, ◌≡◌, Bool, true, None}
use Rattle.dns_tcp.specs.ExchangeParts.{faults_of, parts_of, sends_of}
use Rattle.dns_tcp.specs.Making.{new_parts}
use Rattle.dns_tcp.specs.Streams.{StreamValue}
use Rattle.dns_tcp.specs.declared.tcp_exchange.TcpExchange.{TcpExchange}
use Rattle.dns_client.specs.declared.client.Client.{Client}

-- the handle that sends
abbrev pub sender_of : {S : Type 0} → Client S → S
sender_of client = client.sender

-- its requests are to have an OPT record
abbrev pub edns_of : {S : Type 0} → Client S → Bool
edns_of client = client.use_edns

-- it is one send of the handle inside, and changes nothing else
pub record SendsInside {S : Type 0} (old new : Client S) (Sent : S → S → Type 0) : Type 0 where
  pub inside : Sent (sender_of old) (sender_of new)
  pub edns : edns_of new ≡ edns_of old

-- a client over a connection by which nothing was sent yet
pub record IsNewClient {L R : Type 0} (link : L) (stream : StreamValue) (draws : R) (timeout : ℕ)
    (client : Client (TcpExchange L R)) : Type 0 where
  pub parts : parts_of (sender_of client) ≡ new_parts link stream draws timeout None
  pub sends : sends_of (sender_of client) ≡ 0
  pub faults : faults_of (sender_of client) ≡ 0
  pub edns : edns_of client ≡ true
