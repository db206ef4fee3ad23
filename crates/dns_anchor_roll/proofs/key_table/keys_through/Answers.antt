use Rattle.std.proofs.Common.{◌≡◌, ◌∙◌, ℕ, List, refl, sym, ap}
use Rattle.std.specs.Borrow.{Bor}
use Rattle.std.specs.List.{filter}
use Rattle.std.proofs.lemmas.List.{get_or_default, take_all}
use Rattle.dns_anchor_roll.specs.Tables.{entry_at, is_done_at}
use Rattle.dns_anchor_roll.proofs.Records.{kept_more, left_more}
use Rattle.dns_anchor_roll.proofs.Tables.{through_of}
use Rattle.dns_anchor_roll.proofs.key_table.keys_through.Goals as goal
use Rattle.dns_anchor_roll.proofs.key_table.keys_through.Goals.{then-is_through+in_ok-push, else-is_through}

pub loop-key-preserved : goal.loop-key-preserved
loop-key-preserved c =
    let test = λ (k : Bor (List ℕ)). is_done_at (entry_at c.args.shown.now k.now) c.args.moment in
    elim c.if-is_through.branch [
      | then-is_through+in_ok-push w ↦ rw w.through-is
          (kept_more test c.args.keys.now c.loop-key.key-index _ _ _ _ c.loop-key-test.true (get_or_default c.args.keys.now c.loop-key.key-index _ _ c.loop-key-test.true)
          (sym c.is_through.ensures ∙ w.if-is_through.true) c.loop-key.invariant refl w.in_ok-push.ensures.items)
      | else-is_through w ↦ rw w.through-is
          (left_more test c.args.keys.now c.loop-key.key-index _ _ c.loop-key-test.true (get_or_default c.args.keys.now c.loop-key.key-index _ _ c.loop-key-test.true)
          (sym c.is_through.ensures ∙ w.if-is_through.false) c.loop-key.invariant)
    ]

pub returns : goal.returns
returns c =
    let test = λ (k : Bor (List ℕ)). is_done_at (entry_at c.args.shown.now k.now) c.args.moment in
    through_of c.args.shown.now c.args.moment c.args.keys.now c.loop-key.through.items
    (c.loop-key.invariant ∙ ap (filter test) (take_all c.loop-key.key-index c.args.keys.now c.loop-key-test.false))
