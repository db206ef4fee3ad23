use Rattle.std.proofs.Common.{ℕ, length, subst, arith}
use Rattle.dns_aggressive.specs.Expiring.{expiry_cmp, HasAll, IsOrder}
use Rattle.dns_aggressive.proofs.Expiring.{all_with, inside_up, inside_with}
use Rattle.dns_aggressive.proofs.sorting.sort_in_from.Goals as goal

pub loop-position-init : goal.loop-position-init
loop-position-init c = record {
  order = c.requires.order;
  room = c.requires.room;
  above = omega arith;
  all = λ gone le h. h;
}

pub sort_in-requires-clause-inside : goal.sort_in-requires-clause-inside
sort_in-requires-clause-inside c =
    let l = c.loop-position in
    inside_up l.order.items l.position (length c.args.kept.now) l.invariant.order.inside
    (omega (arith, c.loop-position-test.true))

pub loop-position-preserved : goal.loop-position-preserved
loop-position-preserved c =
    let l = c.loop-position in
    let with = c.sort_in.ensures.with in
    record {
      order = record {
        inside = inside_with l.order.items c.sort_in.new.order.items l.position _ l.position with
            l.invariant.order.inside (omega arith) (omega arith);
        sorted = c.sort_in.ensures.sorted;
      };
      room = (let long = with.long in omega (
        arith,
        long,
        c.sort_in.ensures.capacity,
        l.invariant.room,
        c.loop-position-test.true,
      ));
      above = (let a = l.invariant.above in omega (arith, a));
      all = λ gone le h.
          all_with l.order.items c.sort_in.new.order.items gone l.position with
          (let a = l.invariant.above in omega (arith, a, le)) (l.invariant.all gone le h);
    }

pub returns-clause-order : goal.returns-clause-order
returns-clause-order c =
    let l = c.loop-position in
    subst (λ (n : ℕ). IsOrder (expiry_cmp c.args.sorting) c.args.kept.now n l.order.items)
    (omega (arith, l.auto.position-end c.requires.within, c.loop-position-test.false)) l.invariant.order

pub returns-clause-all : goal.returns-clause-all
returns-clause-all c = λ gone le h.
    let l = c.loop-position in
    subst (λ (n : ℕ). HasAll gone n l.order.items)
    (omega (arith, l.auto.position-end c.requires.within, c.loop-position-test.false)) (l.invariant.all gone le h)
