use Rattle.std.proofs.Common.{ℕ, List, length, sym, subst, ◌∙◌}
use Rattle.std.specs.List.{filter}
use Rattle.dns_aggressive.specs.Compaction.{flag_at}
use Rattle.dns_aggressive.specs.Orders.{AreInside}
use Rattle.dns_aggressive.proofs.Compaction.{left_inside}
use Rattle.dns_aggressive.proofs.compacting.renumber.Goals as goal

pub move_all-requires : goal.move_all-requires
move_all-requires c =
    let flags = c.args.stays.now in
    let order = c.args.order.now.items in
    subst (λ (l : List ℕ). AreInside (length c.args.moved.now) l)
    (sym (c.as_mut_slice.ensures.value ∙ c.keep_staying.ensures))
    (subst (λ (n : ℕ). AreInside n (filter (flag_at flags) order)) (sym c.requires.moved) (left_inside flags order))
