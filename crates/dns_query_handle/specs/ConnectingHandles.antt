-- What contracts see of a handle that makes a connection for each request (RFC 7766, 6): its parts, how it counts, and what its sends are.
use Rattle.std.specs.Prelude.{ℕ, ◌≡◌, Option}
use Rattle.std.specs.declared.net.socket_addr.SocketAddr.{SocketAddr}
use Rattle.dns_model.specs.Counts.{one_more}
use Rattle.dns_model.specs.Records.{Question}
use Rattle.dns_handle.specs.Causes.{faults_after}
use Rattle.dns_handle.specs.Errors.{Reply}
use Rattle.dns_handle.specs.Requests.{RequestValue, first_question}
use Rattle.dns_query_handle.specs.Connections.{AsksOver, Connections}
use Rattle.dns_query_handle.specs.declared.connecting_handle.ConnectingHandle.{ConnectingHandle}

-- what a send has in hands
pub record Parts (D R : Type 0) : Type 0 where
  pub dial : D
  pub draws : R
  pub server : SocketAddr
  -- milliseconds
  pub timeout : ℕ

abbrev pub parts_of : {D R : Type 0} → ConnectingHandle D R → Parts D R
parts_of connecting = record {
  dial = connecting.dial;
  draws = connecting.draws;
  server = connecting.server;
  timeout = connecting.timeout_ms;
}

-- how many sends there were, and how many faults were answered
abbrev pub sends_of : {D R : Type 0} → ConnectingHandle D R → ℕ
sends_of connecting = connecting.sends

abbrev pub faults_of : {D R : Type 0} → ConnectingHandle D R → ℕ
faults_of connecting = connecting.faults

-- a send: an id is drawn, the request is sent under it over a connection, and the send is counted; server and limit stay
pub record Connects {D L R : Type 0} (seen : Connections D L) (draws_id : R → ℕ → R → Type 0) (old : ConnectingHandle D R)
    (request : RequestValue) (now : ℕ) (new : ConnectingHandle D R) (reply : Reply) : Type 0 where
  pub id : ℕ
  pub drawn : draws_id (parts_of old).draws id (parts_of new).draws
  pub asked : AsksOver seen (parts_of old).server (parts_of old).timeout id (parts_of old).dial (parts_of new).dial request now reply
  pub server : (parts_of new).server ≡ (parts_of old).server
  pub timeout : (parts_of new).timeout ≡ (parts_of old).timeout
  pub sends : sends_of new ≡ one_more (sends_of old)
  pub faults : faults_of new ≡ faults_after (faults_of old) reply

-- the same of some request with a first question, at some moment
pub record ConnectsQuestion {D L R : Type 0} (seen : Connections D L) (draws_id : R → ℕ → R → Type 0) (old : ConnectingHandle D R)
    (q : Option Question) (new : ConnectingHandle D R) (reply : Reply) : Type 0 where
  pub request : RequestValue
  pub moment : ℕ
  pub asks : q ≡ first_question request
  pub is : Connects seen draws_id old request moment new reply
