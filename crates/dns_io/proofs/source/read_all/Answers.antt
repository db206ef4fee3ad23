use Rattle.std.proofs.Common.{rules, arith}
use Rattle.std.proofs.lemmas.List.{length-take}
use Rattle.dns_io.proofs.Steps.{fronts_more, reads_more}
use Rattle.dns_io.proofs.source.read_all.Goals as goal

pub returns-in_err-count-clause-read : goal.returns-in_err-count-clause-read
returns-in_err-count-clause-read g c =
    fronts_more _ _ _ _ _ c.loop-all.all.items
    (simp length-take (omega (arith, c.loop-all.all.ok.0))) c.loop-all.invariant.read c.read_piece.ensures.read

pub loop-all-preserved : goal.loop-all-preserved
loop-all-preserved g c = record {
  piece = search rules;
  bound = search rules;
  later = omega (arith, c.loop-all.invariant.later, c.read_piece.ensures.later);
  read = reads_more _ _ _ _ _ c.loop-all.invariant.read c.in_ok-count.ensures.onto;
}
