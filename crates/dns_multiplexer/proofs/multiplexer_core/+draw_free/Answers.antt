use Rattle.std.proofs.Common.{◌≡◌, suc, ◌-◌, sym, ◌∙◌, arith}
use Rattle.dns_multiplexer.specs.Machine.{is_taken_id}
use Rattle.dns_multiplexer.proofs.CoreLemmas.{no_draw, free_draw_at, more_draw_at}
use Rattle.dns_multiplexer.proofs.multiplexer_core.+draw_free.Goals as goal

pub returns-then-left-eq0 : goal.returns-then-left-eq0
returns-then-left-eq0 g t c = rw c.if-left-eq0.true
    (no_draw g.R.Draws.draws_id c.args.draws.now (is_taken_id c.args.table.now.requests))

pub returns-then-has_id : goal.returns-then-has_id
returns-then-has_id g t c =
    let below : c.args.left ≡ suc (c.args.left - 1) = omega (arith, c.if-left-eq0.false) in
    more_draw_at g.R.Draws.draws_id c.args.draws.now c.id-id.new.self c.draw_free.new.draws c.args.left
    (c.args.left - 1) c.id-id.result (is_taken_id c.args.table.now.requests) c.draw_free.result
    below c.id-id.ensures (sym c.has_id.ensures ∙ c.if-has_id.true) c.draw_free.ensures

pub returns : goal.returns
returns g t c =
    let below : c.args.left ≡ suc (c.args.left - 1) = omega (arith, c.if-left-eq0.false) in
    free_draw_at g.R.Draws.draws_id c.args.draws.now c.id-id.new.self c.args.left (c.args.left - 1)
    c.id-id.result (is_taken_id c.args.table.now.requests)
    below c.id-id.ensures (sym c.has_id.ensures ∙ c.if-has_id.false)
