use Rattle.std.proofs.Common.{◌≡◌, ◌<◌, All, length, map, take}
use Rattle.dns_link.proofs.pieces.lengths.Given as goal

abbrev pub invariant-loop-piece : goal.invariant-loop-piece
invariant-loop-piece l = (l.all.items ≡ map length (take l.piece-index l.pieces)) × All (λ n. 0 < n) l.all.items
