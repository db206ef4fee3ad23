use Rattle.std.proofs.Common.{◌≡◌, length, map, arith}
use Rattle.std.specs.List.{concat, sum}
use Rattle.dns_link.proofs.PieceLemmas.{sum_lengths}
use Rattle.dns_link.proofs.pieces.Pieces.new.Goals as goal

pub invariant_of-result : goal.invariant_of-result
invariant_of-result c =
    let xs = c.args.pieces.now in
    let s = sum_lengths xs in
    let joined : c.in_ok-bytes.bytes.items ≡ concat xs = c.in_ok-bytes.ensures in
    let listed : c.in_ok-later.later.items ≡ map length xs = c.in_ok-later.ensures.lengths in
    let same = c.next_piece-piece.ensures.same in
    let all : sum c.in_ok-later.later.items ≡ length c.in_ok-bytes.bytes.items = rw (listed, joined) s in
    record {
      whole = omega (arith, same, all);
      some = c.next_piece-piece.ensures.some;
      last = c.next_piece-piece.ensures.last;
    }
