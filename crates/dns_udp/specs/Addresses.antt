-- Addresses that are one (RFC 4291, 2.5.5.2; RFC 5452, 9.1).
use Rattle.std.specs.Prelude.{ℕ, ◌==◌, ◌&&◌, Bool, List, [], ◌∷◌, take, nat_eq, if◌then◌else◌}
use Rattle.std.specs.Cmp.Lexicographic.{pointwise}
use Rattle.std.specs.Net.Addr.{ipv4_octets, ipv6_segments, low_octets}
use Rattle.std.specs.Net.Socket.{socket_ip, socket_port}
use Rattle.std.specs.declared.net.ip_addr.IpAddr.{IpAddr}
use Rattle.std.specs.declared.net.ip_addr.IpAddr.TheVariants.{V4, V6}
use Rattle.std.specs.declared.net.socket_addr.SocketAddr.{SocketAddr}

-- the segments of an address that stands for an IPv4 address: ::ffff:a.b.c.d
abbrev pub is_ipv4_mapped : List ℕ → Bool
is_ipv4_mapped segments = pointwise nat_eq (take 6 segments) (0 ∷ 0 ∷ 0 ∷ 0 ∷ 0 ∷ 0xffff ∷ [])

-- the four octets of an IPv4 address, also of one that stands as ::ffff:a.b.c.d; the eight segments of any other
abbrev pub numbers_of : IpAddr → List ℕ
numbers_of (V4 ip) = ipv4_octets ip
numbers_of (V6 ip) = if is_ipv4_mapped (ipv6_segments ip) then low_octets ip else ipv6_segments ip

abbrev pub is_same_address : IpAddr → IpAddr → Bool
is_same_address one other = pointwise nat_eq (numbers_of one) (numbers_of other)

-- address and port are the same; a scope or a flow label doesn't count
abbrev pub is_same_peer : SocketAddr → SocketAddr → Bool
is_same_peer one other = is_same_address (socket_ip one) (socket_ip other) && (socket_port one == socket_port other)
