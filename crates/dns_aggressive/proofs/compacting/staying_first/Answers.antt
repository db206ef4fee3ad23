use Rattle.std.proofs.Common.{ℕ, List, ◌+◌, cond, set, refl, sym, subst, arith}
use Rattle.std.proofs.lemmas.List.Filters.{FiltersInPlace}
use Rattle.dns_aggressive.specs.Compaction.{flag_at}
use Rattle.dns_aggressive.specs.Orders.{nth}
use Rattle.dns_aggressive.proofs.Compaction.{moved_step, rest_at}
use Rattle.dns_aggressive.proofs.compacting.staying_first.Goals as goal

pub keep_if_staying-left-requires-clause-inside : goal.keep_if_staying-left-requires-clause-inside
keep_if_staying-left-requires-clause-inside c =
    let l = c.loop-number in
    let e = rest_at c.args.order.now l.order l.number l.invariant.rest in
    let lt = c.requires.each l.number c.loop-number-test.true in
    omega (arith, e, lt)

pub loop-number-preserved : goal.loop-number-preserved
loop-number-preserved c =
    let test = flag_at c.args.stays.now in
    let l = c.loop-number in
    let b = flag_at c.args.stays.now (nth l.order l.number) in
    let step = c.keep_if_staying-left in
    subst (λ (zs : List ℕ). FiltersInPlace test c.args.order.now zs step.result (l.number + 1)) (sym step.ensures.order)
    (subst
    (λ (m : ℕ). FiltersInPlace test c.args.order.now (cond b (set l.order l.left (nth l.order l.number)) l.order) m
    (l.number + 1))
    (sym step.ensures.left)
    (moved_step test c.args.order.now l.order l.left l.number b l.invariant
    (omega (arith, l.auto.order, c.loop-number-test.true)) refl))
