use Rattle.std.proofs.Common.{rules, ◌≡◌, length, ◌∷◌}
use Rattle.dns_causes.proofs.MarkedLemmas.{no_entries, no_sets, one_more}
use Rattle.dns_causes.proofs.marked.marked_sets.Goals as goal

pub returns-in_default-split_first : goal.returns-in_default-split_first
returns-in_default-split_first c =
    let none : length c.sets.right.now ≡ 0 = search rules in
    no_entries c.sets.sets.items _ c.sets.left.now c.sets.right.now none c.sets.invariant

pub sets-preserved : goal.sets-preserved
sets-preserved c =
    let cut : c.sets.left.now ≡ c.in-Some.next.now ∷ c.in-Some.more.now = search rules in
    let first : c.sets.right.now ≡ c.in-Some-split_first.entry.now ∷ c.in-Some-split_first.others.now = search rules in
    one_more c.sets.sets.items _ _ c.sets.left.now c.in-Some.more.now c.sets.right.now
    c.in-Some-split_first.others.now c.in-Some.next.now c.in-Some-split_first.entry.now c.in_ok-set.set cut first
    c.in_ok-set.ensures c.in_ok-push.ensures.items c.sets.invariant

pub returns : goal.returns
returns c =
    let none : length c.sets.left.now ≡ 0 = search rules in
    no_sets c.sets.sets.items _ c.sets.left.now c.sets.right.now none c.sets.invariant
