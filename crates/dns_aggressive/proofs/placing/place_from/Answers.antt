use Rattle.std.proofs.Common.{ℕ, subst, arith}
use Rattle.dns_aggressive.specs.Orders.{AreLatest}
use Rattle.dns_aggressive.proofs.Latest.{all_latest_more}
use Rattle.dns_aggressive.specs.Reaching.{AreReaching}
use Rattle.dns_aggressive.proofs.placing.place_from.Goals as goal

pub loop-position-preserved : goal.loop-position-preserved
loop-position-preserved c =
    let l = c.loop-position in
    record {
      placed = c.place-old.ensures.placed;
      room = omega (
        arith,
        c.place-old.ensures.len,
        c.place-old.ensures.capacity,
        l.invariant.room,
        c.loop-position-test.true,
      );
      reaching = c.note.ensures.reaching;
      space = omega (
        arith,
        c.note.ensures.len,
        c.note.ensures.capacity,
        l.invariant.space,
        c.loop-position-test.true,
      );
      latest = λ no from.
          all_latest_more c.args.kept.now c.args.gone l.position c.place-old.result
          (l.invariant.latest (c.is_replaced-replaced.ensures.before no) from) c.place-old.ensures.others
          (c.is_replaced-replaced.ensures.old no);
    }

pub returns-clause-latest : goal.returns-clause-latest
returns-clause-latest c =
    let l = c.loop-position in
    λ no from.
    subst (λ (n : ℕ). AreLatest c.args.kept.now c.args.gone n)
    (omega (arith, l.auto.position-end c.requires.within, c.loop-position-test.false))
    (l.invariant.latest no from)

pub returns-clause-reaching : goal.returns-clause-reaching
returns-clause-reaching c =
    let l = c.loop-position in
    subst (λ (n : ℕ). AreReaching c.args.kept.now n l.reaching.items)
    (omega (arith, l.auto.position-end c.requires.within, c.loop-position-test.false)) l.invariant.reaching
