-- A client that sends requests to one server by datagrams.
use Rattle.std.specs.Prelude.{ℕ, ◌≡◌, ◌⊎◌, Bool, false, [], Option, None, Result, Ok, Err, unwrap_or}
use Rattle.std.specs.BTreeSet.{BTreeSet}
use Rattle.std.specs.declared.net.socket_addr.SocketAddr.{SocketAddr}
use Rattle.dns_handle.specs.Requests.{RequestValue}
use Rattle.dns_handle.specs.declared.error.NetError.{NetError}
use Rattle.dns_handle.specs.declared.error.NetError.TheVariants.{Proto, NoMemory}
use Rattle.dns_handle.specs.declared.error.ProtoError.TheVariants.{TooLong}
use Rattle.dns_udp.specs.Bindings.{BindingValue, IsBoundAt}
use Rattle.dns_udp.specs.Requests.{AskedValue}

pub record ClientStreamValue : Type 0 where
  pub server : SocketAddr
  -- milliseconds
  pub timeout : ℕ
  pub is_shutdown : Bool
  pub binding : BindingValue
  -- on so many sockets a request is sent at most
  pub max_retries : ℕ
  -- milliseconds
  pub floor : ℕ

-- a request of a client
abbrev pub asked_of : ClientStreamValue → RequestValue → AskedValue
asked_of stream request = record { request = request; server = stream.server; timeout = stream.timeout }

-- what was chosen for a client that isn't made yet; None stands for what is usual
pub record BuilderValue : Type 0 where
  pub server : SocketAddr
  pub timeout : Option ℕ
  pub bind : Option SocketAddr
  pub avoid : BTreeSet ℕ
  pub os_ports : Bool
  pub max_retries : ℕ
  pub floor : ℕ

-- an encoding above 65,535 bytes, or want of memory
abbrev pub IsTooLong : {X : Type 0} → Result X NetError → Type 0
IsTooLong (Ok x) = ⊥
IsTooLong (Err error) = (error ≡ Proto TooLong) ⊎ (error ≡ NoMemory)

-- what is usual: 5,000 milliseconds, three sockets, 333 milliseconds between two of them, ports that are drawn
abbrev pub plain_builder : SocketAddr → BuilderValue
plain_builder server = record {
  server = server;
  timeout = None;
  bind = None;
  avoid = record { keys = [] };
  os_ports = false;
  max_retries = 3;
  floor = 333;
}

-- the client that a builder makes
pub record IsBuilt (builder : BuilderValue) (stream : ClientStreamValue) : Type 0 where
  pub server : stream.server ≡ builder.server
  pub timeout : stream.timeout ≡ unwrap_or builder.timeout 5000
  pub running : stream.is_shutdown ≡ false
  pub local : IsBoundAt builder.server builder.bind stream.binding.local
  pub avoid : stream.binding.avoid ≡ builder.avoid
  pub os_ports : stream.binding.os_ports ≡ builder.os_ports
  pub max_retries : stream.max_retries ≡ builder.max_retries
  pub floor : stream.floor ≡ builder.floor
