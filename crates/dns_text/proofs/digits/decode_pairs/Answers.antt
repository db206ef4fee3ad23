use Rattle.std.proofs.Common.{arith}
use Rattle.dns_text.proofs.PairSteps.{pairs_step, pairs_end}
use Rattle.dns_text.proofs.digits.decode_pairs.Goals as goal

pub pairs-preserved : goal.pairs-preserved
pairs-preserved c =
    rw (c.max-worst.ensures, c.max.ensures)
    (pairs_step c.args.digits.now c.pairs.into c.pairs.at c.pairs.worst c.digit_value-high.result c.digit_value-low.result
    (omega arith) (omega arith)
    c.digit_value-high.ensures.value c.digit_value-low.ensures.value c.pairs.invariant)

pub returns : goal.returns
returns c =
    pairs_end c.args.digits.now c.pairs.into c.pairs.at c.pairs.worst (omega arith) (omega arith) c.pairs.invariant
