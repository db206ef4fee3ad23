use Rattle.std.proofs.Common.{◌≡◌, ◌+◌, [], ◌∷◌, ◌++◌, take, arith}
use Rattle.std.proofs.lemmas.Grind.{common_steps}
use Rattle.dns_link.proofs.PieceLemmas.{concat-push}
use Rattle.dns_link.proofs.pieces.joined.Goals as goal

pub loop-piece-preserved : goal.loop-piece-preserved
loop-piece-preserved c =
    let i = c.loop-piece.piece-index in
    let xs = c.args.pieces.now in
    let more : take (i + 1) xs ≡ take i xs ++ c.piece-item.result ∷ [] = grind (arith, common_steps) in
    let p = concat-push (take i xs) c.piece-item.result in
    first_of ((grind (arith, common_steps, concat-push)), (cc (c.in_ok-extend_from_slice.ensures.items, c.as_slice.ensures)))
