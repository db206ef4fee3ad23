use Rattle.std.proofs.Common.{sym, ◌∙◌, arith}
use Rattle.dns_record.proofs.RowLemmas.{word_here, word_next, word_end}
use Rattle.dns_record.proofs.words.word_of.Goals as goal

pub returns-then-row-number : goal.returns-then-row-number
returns-then-row-number c =
    sym (word_here _ c.args.rows.now c.loop-row.row-index _ c.args.number (omega arith) c.if-row-number.true) ∙ c.loop-row.invariant

pub loop-row-preserved : goal.loop-row-preserved
loop-row-preserved c =
    sym (word_next _ c.args.rows.now c.loop-row.row-index _ c.args.number (omega arith) c.if-row-number.false) ∙ c.loop-row.invariant

pub returns : goal.returns
returns c = sym (word_end _ c.args.rows.now c.loop-row.row-index c.args.number (omega arith)) ∙ c.loop-row.invariant
