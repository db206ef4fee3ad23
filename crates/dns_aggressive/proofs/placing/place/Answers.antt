use Rattle.std.proofs.Common.{ℕ, List, ◌+◌, ◌<◌, length, sym, subst, ap, ◌∙◌, Some, arith, true, false}
use Rattle.std.specs.Ordering.{is_lt}
use Rattle.std.proofs.lemmas.List.{get_or_default}
use Rattle.dns_aggressive.specs.Orders.{at, nth_of, IsFront, IsPlaced}
use Rattle.dns_aggressive.specs.Places.{record_cmp}
use Rattle.dns_aggressive.proofs.Orders.{equal_from, front_of_place}
use Rattle.dns_aggressive.proofs.Latest.{IsGap, gap_end, gap_in, gap_over, others_in, others_over, parted_here, placed_in, placed_over, tie_here}
use Rattle.dns_aggressive.proofs.placing.place.Goals as goal
use Rattle.dns_aggressive.proofs.placing.place.Goals.{then-number-len+else-have_one_place, else-number-len}

pub passed-number-requires-clause-front : goal.passed-number-requires-clause-front
passed-number-requires-clause-front c =
    subst (λ (l : List ℕ). IsFront (λ k. is_lt (record_cmp k c.record_at-next.result.now)) c.args.kept.now l)
    (sym c.deref.ensures.value)
    (front_of_place c.args.kept.now c.args.by_place.now.items c.record_at-next.result.now c.requires.placed.rising)

pub returns-then-have_one_place-clause-placed : goal.returns-then-have_one_place-clause-placed
returns-then-have_one_place-clause-placed c =
    let kept = c.args.kept.now in
    let order = c.args.by_place.now.items in
    let n = c.passed-number.result in
    let parted = parted_here kept order c.deref.result.now n c.args.position c.record_at-next.result.now
    c.deref.ensures.value c.record_at-next.ensures c.passed-number.ensures in
    let within : c.passed-number.result < length c.args.by_place.now.items = omega (
      arith,
      c.if-number-len.true,
      c.len.ensures,
    ) in
    let old = c.index-old.ensures ∙ get_or_default order n _ 0 within in
    let tie = equal_from (record_cmp (nth_of kept order n) (at kept c.args.position))
    (tie_here kept order n c.args.position c.index-old.result.now c.record_at-next.result.now
    c.record_at.result.now true
    old c.record_at.ensures c.record_at-next.ensures (sym c.if-have_one_place.true ∙ c.have_one_place.ensures)) in
    placed_over kept order n c.args.position c.requires.placed
    (gap_over kept order n c.args.position c.requires.placed.rising parted within tie) within tie

pub returns-then-have_one_place-clause-others : goal.returns-then-have_one_place-clause-others
returns-then-have_one_place-clause-others c =
    let kept = c.args.kept.now in
    let order = c.args.by_place.now.items in
    let n = c.passed-number.result in
    let parted = parted_here kept order c.deref.result.now n c.args.position c.record_at-next.result.now
    c.deref.ensures.value c.record_at-next.ensures c.passed-number.ensures in
    let within : c.passed-number.result < length c.args.by_place.now.items = omega (
      arith,
      c.if-number-len.true,
      c.len.ensures,
    ) in
    let old = c.index-old.ensures ∙ get_or_default order n _ 0 within in
    let tie = equal_from (record_cmp (nth_of kept order n) (at kept c.args.position))
    (tie_here kept order n c.args.position c.index-old.result.now c.record_at-next.result.now
    c.record_at.result.now true
    old c.record_at.ensures c.record_at-next.ensures (sym c.if-have_one_place.true ∙ c.have_one_place.ensures)) in
    λ other lt latest differs.
    others_over kept order n c.args.position c.requires.placed
    (gap_over kept order n c.args.position c.requires.placed.rising parted within tie) other lt latest
    (λ e. differs (ap Some old ∙ e))

gap_of : (c : goal.After-put_in) → IsGap c.args.kept.now c.args.by_place.now.items c.passed-number.result
    c.passed-number.result c.args.position
gap_of c =
    let kept = c.args.kept.now in
    let order = c.args.by_place.now.items in
    let n = c.passed-number.result in
    let parted = parted_here kept order c.deref.result.now n c.args.position c.record_at-next.result.now
    c.deref.ensures.value c.record_at-next.ensures c.passed-number.ensures in
    elim c.if-number-len.branch [
      | then-number-len+else-have_one_place w ↦
          let within : c.passed-number.result < length c.args.by_place.now.items =
          omega (arith, w.if-number-len.true, c.len.ensures) in
          gap_in kept order n c.args.position c.requires.placed.rising parted within
          (tie_here kept order n c.args.position w.index-old.result.now c.record_at-next.result.now
          w.record_at.result.now false (w.index-old.ensures ∙ get_or_default order n _ 0 within) w.record_at.ensures
          c.record_at-next.ensures (sym w.if-have_one_place.false ∙ w.have_one_place.ensures))
      | else-number-len w ↦
          gap_end kept order n c.args.position parted (omega (arith, w.if-number-len.false, c.len.ensures))
    ]

pub returns-clause-placed : goal.returns-clause-placed
returns-clause-placed c =
    let kept = c.args.kept.now in
    let order = c.args.by_place.now.items in
    let n = c.passed-number.result in
    let parted = parted_here kept order c.deref.result.now n c.args.position c.record_at-next.result.now
    c.deref.ensures.value c.record_at-next.ensures c.passed-number.ensures in
    subst (λ (l : List ℕ). IsPlaced kept (c.args.position + 1) l) (sym c.put_in.ensures.items)
    (placed_in kept order n c.args.position c.requires.placed (gap_of c) parted.within)

pub returns-clause-others : goal.returns-clause-others
returns-clause-others c = λ other lt latest differs.
    others_in c.args.kept.now c.args.by_place.now.items c.passed-number.result c.args.position c.requires.placed
    (gap_of c) other lt latest
