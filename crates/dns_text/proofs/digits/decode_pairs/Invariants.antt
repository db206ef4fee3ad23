use Rattle.std.proofs.Common.{◌≡◌, ◌*◌, take, drop}
use Rattle.dns_text.specs.Pairs.{pairs_in}
use Rattle.dns_text.proofs.PairSteps.{finish}
use Rattle.dns_text.proofs.digits.decode_pairs.Given as goal

abbrev pub invariant-pairs : goal.invariant-pairs
invariant-pairs l = pairs_in l.digits ≡ finish l.worst (take l.at l.into) (pairs_in (drop (2 * l.at) l.digits))
