use Rattle.std.proofs.Common.{◌≡◌, ◌∙◌, ℕ, List, true, refl, sym, ap}
use Rattle.std.specs.Borrow.{Bor}
use Rattle.std.specs.List.{All}
use Rattle.std.proofs.lemmas.List.Elements.{All-weaker}
use Rattle.dns_anchor_roll.specs.Tables.{among, changed_if, has_entry}
use Rattle.dns_anchor_roll.specs.declared.standing.Change.TheVariants.{Trust, Revoke}
use Rattle.dns_anchor_roll.proofs.Lists.{after_error}
use Rattle.dns_anchor_roll.proofs.key_table.settle.Goals as goal

pub returns-in_err-make_all_room-2-clause-err : goal.returns-in_err-make_all_room-2-clause-err
returns-in_err-make_all_room-2-clause-err c =
    after_error c.from_residual-in_err-make_all_room-2.result
    (λ q. c.in_err-make_all_room-2.ensures.same q ∙ c.in_ok-make_all_room.ensures.same q)

pub change_all-requires : goal.change_all-requires
change_all-requires c = record {
  room =
      All-weaker (λ (k : Bor (List ℕ)). has_entry c.make_all_room.new.known k.now ≡ true)
      (λ (k : Bor (List ℕ)). has_entry c.make_all_room-2.new.known k.now ≡ true)
      (λ k h. c.in_ok-make_all_room-2.ensures.more k.now h) c.args.through.now c.in_ok-make_all_room.ensures.room;
}

pub change_all-requires-2 : goal.change_all-requires-2
change_all-requires-2 c = record {
  room =
      All-weaker (λ (k : Bor (List ℕ)). has_entry c.make_all_room-2.new.known k.now ≡ true)
      (λ (k : Bor (List ℕ)). has_entry c.change_all.new.known k.now ≡ true)
      (λ k h. c.change_all.ensures.same k.now ∙ h) c.args.revoked.now c.in_ok-make_all_room-2.ensures.room;
}

pub returns : goal.returns
returns c = record {
  ok = λ q.
      c.change_all-2.ensures.changed q
      ∙ ap (changed_if (among q c.args.revoked.now) (Revoke c.args.moment))
      (c.change_all.ensures.changed q
      ∙ ap (changed_if (among q c.args.through.now) Trust)
      (c.in_ok-make_all_room-2.ensures.same q ∙ c.in_ok-make_all_room.ensures.same q));
  err = tt;
}
