-- What the three forms of octets hold.
use Rattle.std.specs.Prelude.{ℕ, List}
use Rattle.dns_record.specs.declared.octets.Held.{Held}
use Rattle.dns_record.specs.declared.octets.Held.TheVariants.{InPlace, Own, Block}

-- the bytes
abbrev pub bytes_of : Held → List ℕ
bytes_of (InPlace xs) = xs
bytes_of (Own v) = v.items
bytes_of (Block xs) = xs
