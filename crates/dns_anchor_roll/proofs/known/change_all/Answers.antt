use Rattle.std.proofs.Common.{◌≡◌, ◌+◌, ◌∙◌, ℕ, List, refl, sym, ap, take, true}
use Rattle.std.specs.Borrow.{Bor}
use Rattle.std.proofs.lemmas.List.{get_or_default}
use Rattle.std.proofs.lemmas.List.Elements.{All-get_or}
use Rattle.dns_model.specs.Keys.{bytes_eq}
use Rattle.dns_anchor_roll.specs.Tables.{among, changed_if, has_entry, standing_in}
use Rattle.dns_anchor_roll.proofs.Keys.{changed_more}
use Rattle.dns_anchor_roll.proofs.Records.{any_all, any_more}
use Rattle.dns_anchor_roll.proofs.known.change_all.Goals as goal

pub change-requires : goal.change-requires
change-requires c =
    record {
      room = c.loop-key.invariant.same _
          ∙ All-get_or (λ (k : Bor (List ℕ)). has_entry c.args.known.now k.now ≡ true) c.args.keys.now c.loop-key.key-index _
          c.loop-key-test.true c.requires.room;
    }

pub loop-key-preserved : goal.loop-key-preserved
loop-key-preserved c = record {
  changed = λ q.
      c.change.ensures.changed q
      ∙ ap (changed_if (bytes_eq q _) c.args.by) (c.loop-key.invariant.changed q)
      ∙ changed_more (among q (take c.loop-key.key-index c.args.keys.now)) (bytes_eq q _) c.args.by
      (standing_in c.args.known.now q)
      ∙ sym (ap (λ b. changed_if b c.args.by (standing_in c.args.known.now q))
      (any_more (λ (k : Bor (List ℕ)). bytes_eq q k.now) c.args.keys.now c.loop-key.key-index _ c.loop-key-test.true (get_or_default c.args.keys.now c.loop-key.key-index _ _ c.loop-key-test.true)));
  same = λ q. c.change.ensures.same q ∙ c.loop-key.invariant.same q;
}

pub returns : goal.returns
returns c = record {
  changed = λ q.
      c.loop-key.invariant.changed q
      ∙ ap (λ b. changed_if b c.args.by (standing_in c.args.known.now q))
      (any_all (λ (k : Bor (List ℕ)). bytes_eq q k.now) c.args.keys.now c.loop-key.key-index c.loop-key-test.false);
  same = c.loop-key.invariant.same;
}
