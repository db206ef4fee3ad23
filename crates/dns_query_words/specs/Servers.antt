-- The texts that name a server: an address alone, or an address and a port (RFC 1035, 4.2; RFC 4291, 2.2; RFC 5952, 6).
use Rattle.std.specs.Prelude.{ℕ, ◌≢◌, ◌⊎◌, List}
use Rattle.std.specs.Net.Grammar.{IsIpText, IsSocketText}
use Rattle.std.specs.Net.Socket.{IsPlainSocket, socket_ip, socket_port}
use Rattle.std.specs.declared.net.socket_addr.SocketAddr.{SocketAddr}

-- an address, which stands for its port 53
pub record IsAlone (text : List ℕ) (server : SocketAddr) : Type 0 where
  pub address : IsIpText text (socket_ip server)
  pub port : IsPlainSocket server 53

-- an address and a port that isn't 0
pub record IsWithPort (text : List ℕ) (server : SocketAddr) : Type 0 where
  pub both : IsSocketText text server
  pub port : socket_port server ≢ 0

-- the server that a text names
abbrev pub IsServer : List ℕ → SocketAddr → Type 0
IsServer text server = IsAlone text server ⊎ IsWithPort text server
