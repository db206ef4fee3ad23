-- For private functions only: the numbers of an address as it is written.
use Rattle.std.specs.Prelude.{ℕ, List}
use Rattle.std.specs.Net.Addr.{ipv4_octets, ipv6_segments}
use Rattle.std.specs.declared.net.ip_addr.IpAddr.{IpAddr}
use Rattle.std.specs.declared.net.ip_addr.IpAddr.TheVariants.{V4, V6}

abbrev pub plain_numbers : IpAddr → List ℕ
plain_numbers (V4 ip) = ipv4_octets ip
plain_numbers (V6 ip) = ipv6_segments ip
