use Rattle.std.proofs.Common.{ℕ, List, sym, subst}
use Rattle.std.specs.Ordering.{is_le}
use Rattle.dns_aggressive.specs.Expiring.{expiry_cmp, AreSorted, IsWith}
use Rattle.dns_aggressive.specs.Orders.{IsFront}
use Rattle.dns_aggressive.proofs.Expiring.{expiry_total, front_sorted, parted_same, sorted_in, with_in}
use Rattle.dns_aggressive.proofs.sorting.sort_in.Goals as goal

pub passed-number-requires-clause-front : goal.passed-number-requires-clause-front
passed-number-requires-clause-front c =
    subst
    (λ (l : List ℕ). IsFront (λ k. is_le (expiry_cmp c.args.sorting k c.record_at-last.result.now)) c.args.kept.now l)
    (sym c.deref.ensures.value)
    (front_sorted (expiry_cmp c.args.sorting) (expiry_total c.args.sorting) c.args.kept.now c.args.order.now.items
    c.record_at-last.result.now c.requires.sorted)

pub returns-clause-sorted : goal.returns-clause-sorted
returns-clause-sorted c =
    let cmp = expiry_cmp c.args.sorting in
    let kept = c.args.kept.now in
    let order = c.args.order.now.items in
    subst (λ (l : List ℕ). AreSorted (expiry_cmp c.args.sorting) c.args.kept.now l) (sym c.put_in.ensures.items)
    (sorted_in (expiry_cmp c.args.sorting) (expiry_total c.args.sorting) kept order c.passed-number.result
    c.args.position c.requires.sorted
    (parted_same (λ k x. is_le (expiry_cmp c.args.sorting k x)) kept order c.deref.result.now c.passed-number.result
    _ _ c.deref.ensures.value c.record_at-last.ensures c.passed-number.ensures))

pub returns-clause-with : goal.returns-clause-with
returns-clause-with c =
    let order = c.args.order.now.items in
    let parted =
    parted_same (λ k x. is_le (expiry_cmp c.args.sorting k x)) c.args.kept.now order c.deref.result.now
    c.passed-number.result _ _ c.deref.ensures.value c.record_at-last.ensures c.passed-number.ensures in
    subst (λ (l : List ℕ). IsWith c.args.order.now.items l c.args.position) (sym c.put_in.ensures.items)
    (with_in order c.passed-number.result c.args.position parted.within)
