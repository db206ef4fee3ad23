-- Addresses as words: IPv4 as four decimal numbers with dots between them (RFC 1035, 3.4.1), IPv6 as groups of hexadecimal digits with
-- colons between them, of which `::` leaves out some that are zero (RFC 3596, 2.4; RFC 4291, 2.2).
use Rattle.std.specs.Prelude.{◌≡◌, ℕ, List, Option, Some, option_map}
use Rattle.std.specs.Net.Addr.{octets_of}
use Rattle.std.specs.Net.Grammar.{IsColonHex, IsDotted}
use Rattle.std.specs.Net.Reader.{read_ipv4, read_ipv6, whole_value}

-- the four bytes of an address of IPv4
unfoldable pub ipv4_in : List ℕ → Option (List ℕ)
ipv4_in word = whole_value (read_ipv4 word)

-- the eight numbers of an address of IPv6
unfoldable pub segments_in : List ℕ → Option (List ℕ)
segments_in word = whole_value (read_ipv6 word)

-- the sixteen bytes of an address of IPv6
abbrev pub ipv6_in : List ℕ → Option (List ℕ)
ipv6_in word = option_map octets_of (segments_in word)

-- the bytes of a word are those of which the grammar says that the word spells them
pub record IsByGrammar (word : List ℕ) : Type 0 where
  pub ipv4_only : (octets : List ℕ) → ipv4_in word ≡ Some octets → IsDotted word octets
  pub ipv4_each : (octets : List ℕ) → IsDotted word octets → ipv4_in word ≡ Some octets
  pub ipv6_only : (segments : List ℕ) → segments_in word ≡ Some segments → IsColonHex word segments
  pub ipv6_each : (segments : List ℕ) → IsColonHex word segments → segments_in word ≡ Some segments
