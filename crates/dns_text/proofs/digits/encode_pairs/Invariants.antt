use Rattle.std.proofs.Common.{◌≡◌, ◌*◌, ◌++◌, take, drop}
use Rattle.hex.specs.Hex.{encode_lower}
use Rattle.dns_text.proofs.digits.encode_pairs.Given as goal

abbrev pub invariant-bytes : goal.invariant-bytes
invariant-bytes l = take (2 * l.at) l.into ++ encode_lower (drop l.at l.bytes) ≡ encode_lower l.bytes
