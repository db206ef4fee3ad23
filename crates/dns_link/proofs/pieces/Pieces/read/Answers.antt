use Rattle.std.proofs.Common.{◌≡◌, ◌-◌, ◌==◌, true, false, ap, sym, ◌∙◌, arith}
use Rattle.std.proofs.lemmas.Bool.Decides.{nat_tests}
use Rattle.dns_link.specs.Pairs.{read_of_piece}
use Rattle.dns_link.proofs.PieceLemmas.{read_more, read_whole}
use Rattle.dns_link.proofs.pieces.Pieces.read.Goals as goal

pub returns-then-self-eq0-clause-after : goal.returns-then-self-eq0-clause-after
returns-then-self-eq0-clause-after c =
    let p = c.self.inside in
    let n = c.copy_front-count.result in
    let t : ((p.piece - n) == 0) ≡ true = grind (arith, nat_tests) in
    rw (c.next_piece-self-inside.ensures.first, c.next_piece-self-inside.ensures.rest)
    (sym (read_whole p.at n p.piece p.bytes.items p.later.items t) ∙ ap (read_of_piece n) c.self.view_is)

pub returns-else-self-eq0-clause-after : goal.returns-else-self-eq0-clause-after
returns-else-self-eq0-clause-after c =
    let p = c.self.inside in
    let n = c.copy_front-count.result in
    let t : ((p.piece - n) == 0) ≡ false = grind (arith, nat_tests) in
    sym (read_more p.at n p.piece p.bytes.items p.later.items t) ∙ ap (read_of_piece n) c.self.view_is
