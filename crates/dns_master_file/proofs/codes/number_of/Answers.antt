use Rattle.std.proofs.Common.{sym, ◌∙◌, ap, arith}
use Rattle.dns_model.specs.Keys.{bytes_eq}
use Rattle.dns_master_file.proofs.RowLemmas.{number_here, number_next, number_end}
use Rattle.dns_master_file.proofs.codes.number_of.Goals as goal

pub returns-then-eq : goal.returns-then-eq
returns-then-eq c =
    sym (number_here _ c.args.rows.now c.loop-row.row-index _ c.args.word.now (omega arith)
    (ap (λ w. bytes_eq w c.args.word.now) (sym c.as_bytes.ensures.value) ∙ sym c.eq.ensures ∙ c.if-eq.true))
    ∙ c.loop-row.invariant

pub loop-row-preserved : goal.loop-row-preserved
loop-row-preserved c =
    sym (number_next _ c.args.rows.now c.loop-row.row-index _ c.args.word.now (omega arith)
    (ap (λ w. bytes_eq w c.args.word.now) (sym c.as_bytes.ensures.value) ∙ sym c.eq.ensures ∙ c.if-eq.false))
    ∙ c.loop-row.invariant

pub returns : goal.returns
returns c = sym (number_end _ c.args.rows.now c.loop-row.row-index c.args.word.now (omega arith)) ∙ c.loop-row.invariant
