-- The address of a server as a word: four numbers up to 255 joined by dots, a colon, and a port from 1 to 65,535, each in digits
-- without a zero before others.
use Rattle.std.specs.Prelude.{ℕ, ◌≡◌, ◌+◌, ◌==◌, List, [], ◌∷◌, take, drop, position, option_map, Option, None, Some, if◌then◌else◌}
use Rattle.std.specs.Net.Addr.{IsV4And, ipv4_octets}
use Rattle.std.specs.Net.Socket.{socket_ip, socket_port}
use Rattle.std.specs.declared.net.socket_addr.SocketAddr.{SocketAddr}
use Rattle.dns_model.specs.OptionSteps.{◌>>=◌}
use Rattle.dns_text.specs.Words.{decimal_in}
use Rattle.dns_asking.specs.declared.address.ServerAddress.{ServerAddress}

-- the socket address that stands for it
pub record IsSocketOf (address : ServerAddress) (server : SocketAddr) : Type 0 where
  pub ip : IsV4And (socket_ip server) (λ ip. ipv4_octets ip ≡ address.octets)
  pub port : socket_port server ≡ address.port

-- the bytes before the first byte of a value, and those after it
abbrev pub cut_at : ℕ → List ℕ → Option (List ℕ × List ℕ)
cut_at byte text = option_map (λ at. (take at text, drop (at + 1) text)) (position (λ b. b == byte) text)

-- the four numbers between dots
abbrev pub octets_in : List ℕ → Option (List ℕ)
octets_in text = do
  one ← cut_at 46 text
  two ← cut_at 46 one.1
  three ← cut_at 46 two.1
  a ← decimal_in 255 one.0
  b ← decimal_in 255 two.0
  c ← decimal_in 255 three.0
  d ← decimal_in 255 three.1
  Some (a ∷ b ∷ c ∷ d ∷ [])

-- the number of a port, which isn't 0
abbrev pub port_in : List ℕ → Option ℕ
port_in word = decimal_in 65535 word >>= λ port. if port == 0 then None else Some port

-- the address that a word is
abbrev pub address_in : List ℕ → Option ServerAddress
address_in word = do
  parts ← cut_at 58 word
  octets ← octets_in parts.0
  port ← port_in parts.1
  Some (record { octets = octets; port = port })
