use Rattle.std.proofs.Common.{◌≡◌, ◌∙◌, refl, sym, ap, None}
use Rattle.std.specs.Borrow.{Bor}
use Rattle.std.proofs.lemmas.List.{get_or_default}
use Rattle.dns_model.specs.Keys.{bytes_eq}
use Rattle.dns_anchor_roll.specs.Tables.{entry_at, gone_on}
use Rattle.dns_anchor_roll.proofs.Records.{any_all}
use Rattle.dns_anchor_roll.proofs.Tables.{stretch_more}
use Rattle.dns_anchor_roll.proofs.key_table.stretches.Goals as goal

pub loop-key-preserved : goal.loop-key-preserved
loop-key-preserved c =
    stretch_more c.args.keys.now c.loop-key.key-index _ _ c.args.old.now c.loop-key.shown c.insert.new.self
    c.stretch_on-stretch.result c.args.moment c.args.ttl c.loop-key-test.true (get_or_default c.args.keys.now c.loop-key.key-index _ _ c.loop-key-test.true) c.in_ok-own.ensures.items
    c.stretch_on-stretch.ensures c.loop-key.invariant c.in_ok-insert.ensures.updates

pub returns : goal.returns
returns c = λ q.
    c.loop-key.invariant q
    ∙ ap (λ b. gone_on b (entry_at c.args.old.now q) c.args.moment c.args.ttl)
    (any_all (λ (k : Bor _). bytes_eq q k.now) c.args.keys.now c.loop-key.key-index c.loop-key-test.false)
