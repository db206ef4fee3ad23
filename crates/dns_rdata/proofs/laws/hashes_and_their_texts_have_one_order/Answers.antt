use Rattle.std.proofs.Common.{◌≡◌, ◌%◌, ◌∙◌, length, sym, arith}
use Rattle.dns_model.proofs.HashTextLemmas.{below_from, text_order}
use Rattle.dns_rdata.proofs.laws.hashes_and_their_texts_have_one_order.Goals as goal

pub returns : goal.returns
returns c =
    let one = c.args._one.now in
    let two = c.args._two.now in
    let size = c.requires.size in
    let whole : length one % 5 ≡ 0 = omega (arith, size) in
    text_order one two (below_from one c.requires.first) (below_from two c.requires.second) (size ∙ sym c.requires.same) whole
