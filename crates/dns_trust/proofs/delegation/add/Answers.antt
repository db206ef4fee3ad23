use Rattle.std.proofs.Common.{rules, ◌≡◌, Some, subst, ◌≤◌, ◌<◌, [], ◌∷◌, ◌++◌, length, arith, ap, ◌∙◌}
use Rattle.std.specs.BTreeMap.{Updates}
use Rattle.dns_trust.specs.Delegating.{algorithm_tag_cmp}
use Rattle.dns_trust.proofs.Delegated.{tag_updated, tag_pushed, tag_full, tag_new}
use Rattle.dns_trust.proofs.delegation.add.Goals as goal

pub returns-in_ok-push : goal.returns-in_ok-push
returns-in_ok-push c =
    let few : length c.in-Some.there.now.items < 2 = omega arith in
    tag_updated c.args.counted.now _ c.push.new.self c.args.ds.now c.args.algorithm c.args.tag
    ((c.get_mut.follows.holds c.push.new.self).3 (search rules))
    (tag_pushed c.args.counted.now c.in-Some.there.now c.push.new.self c.args.ds c.args.algorithm c.args.tag
    c.in-Some.ensures.value few c.in_ok-push.ensures.items)

pub returns-else-len-lt-MOST_COUNTED : goal.returns-else-len-lt-MOST_COUNTED
returns-else-len-lt-MOST_COUNTED c =
    let full : 2 ≤ length c.in-Some.there.now.items = omega arith in
    tag_updated c.args.counted.now _ c.in-Some.there.now c.args.ds.now c.args.algorithm c.args.tag
    ((c.get_mut.follows.holds c.in-Some.there.now).3 (search rules))
    (tag_full c.args.counted.now c.in-Some.there.now c.args.ds.now c.args.algorithm c.args.tag c.in-Some.ensures.value full)

pub returns : goal.returns
returns c =
    let one : c.push-2.new.self.items ≡ c.args.ds ∷ [] = c.in_ok-push-2.ensures.items
    ∙ ap (λ xs. xs ++ c.args.ds ∷ []) c.new-first.ensures.items in
    tag_updated c.args.counted.now _ c.push-2.new.self c.args.ds.now c.args.algorithm c.args.tag
    (subst (λ m. Updates algorithm_tag_cmp m c.insert.new.self (c.args.algorithm, c.args.tag) (Some c.push-2.new.self))
    c.get_mut.follows.holds-at-none c.in_ok-insert.ensures.updates)
    (tag_new c.args.counted.now c.push-2.new.self c.args.ds c.args.algorithm c.args.tag c.in_default.ensures.value one)
