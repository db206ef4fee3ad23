use Rattle.std.proofs.Common.{◌≡◌, ◌+◌, ◌∙◌, ℕ, List, length, refl, sym, ap, take, true}
use Rattle.std.specs.Borrow.{Bor}
use Rattle.std.specs.List.{All}
use Rattle.std.proofs.lemmas.List.{take_all}
use Rattle.std.proofs.lemmas.List.Elements.{All-more, All-nil, All-same, All-weaker}
use Rattle.dns_anchor_roll.specs.Tables.{has_entry}
use Rattle.dns_anchor_roll.proofs.known.make_all_room.Goals as goal

pub loop-key-init : goal.loop-key-init
loop-key-init c = record { same = λ q. refl; room = All-nil _; more = λ q h. h }

pub loop-key-preserved : goal.loop-key-preserved
loop-key-preserved c =
    let more = c.in_ok-make_room.ensures.more in
    record {
      same = λ q. c.in_ok-make_room.ensures.same q ∙ c.loop-key.invariant.same q;
      room = All-more (λ (k : Bor (List ℕ)). has_entry c.make_room.new.known k.now ≡ true) c.args.keys.now c.loop-key.key-index _
          c.loop-key-test.true
          (All-weaker (λ (k : Bor (List ℕ)). has_entry c.loop-key.known k.now ≡ true)
          (λ (k : Bor (List ℕ)). has_entry c.make_room.new.known k.now ≡ true)
          (λ k h. more k.now h) (take c.loop-key.key-index c.args.keys.now) c.loop-key.invariant.room)
          c.in_ok-make_room.ensures.room;
      more = λ q h. more q (c.loop-key.invariant.more q h);
    }

pub returns-in_err-make_room-clause-same : goal.returns-in_err-make_room-clause-same
returns-in_err-make_room-clause-same c = λ q. c.in_err-make_room.ensures.same q ∙ c.loop-key.invariant.same q

pub returns-in_err-make_room-clause-more : goal.returns-in_err-make_room-clause-more
returns-in_err-make_room-clause-more c = λ q h. c.in_err-make_room.ensures.more q (c.loop-key.invariant.more q h)

pub returns : goal.returns
returns c = record {
  same = c.loop-key.invariant.same;
  room = All-same (λ (k : Bor (List ℕ)). has_entry c.loop-key.known k.now ≡ true) c.args.keys.now
      (take c.loop-key.key-index c.args.keys.now)
      (sym (take_all c.loop-key.key-index c.args.keys.now c.loop-key-test.false)) c.loop-key.invariant.room;
  more = c.loop-key.invariant.more;
}
