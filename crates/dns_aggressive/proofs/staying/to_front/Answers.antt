use Rattle.std.proofs.Common.{◌+◌, true, false, sym, subst, ◌∙◌}
use Rattle.std.proofs.lemmas.List.{get_or_default}
use Rattle.dns_aggressive.specs.Orders.{nowhere}
use Rattle.dns_aggressive.proofs.StayingRecords.{IsPacked, packed_more, packed_none, packed_over}
use Rattle.dns_aggressive.proofs.staying.to_front.Goals as goal
use Rattle.dns_aggressive.proofs.staying.to_front.Goals.{then-flag, else-flag}

pub loop-place-init : goal.loop-place-init
loop-place-init c = packed_none c.args.flags.now c.args.list.now

pub loop-place-preserved : goal.loop-place-preserved
loop-place-preserved c =
    let flags = c.args.flags.now in
    let old = c.args.list.now in
    let l = c.loop-place in
    let within = c.loop-place-test.true in
    elim c.if-flag.branch [
      | then-flag w ↦
          subst (λ n. IsPacked flags old c.if-flag.list n (l.place + 1)) (sym w.stayed-is)
          (packed_more flags old l.list c.if-flag.list l.stayed l.place nowhere c.requires within
          (sym (get_or_default flags l.place true false within ∙ w.if-flag.true))
          (w.list-is ∙ w.swap.ensures.after) l.invariant)
      | else-flag w ↦
          subst (λ n. IsPacked flags old c.if-flag.list n (l.place + 1)) (sym w.stayed-is)
          (subst (λ ks. IsPacked flags old ks l.stayed (l.place + 1)) (sym w.list-is)
          (packed_over flags old l.list l.stayed l.place nowhere c.requires within (sym w.if-flag.false) l.invariant))
    ]
