use Rattle.std.proofs.Common.{rules, [], ◌∷◌, ◌++◌, Some, ap, subst, ◌∙◌}
use Rattle.std.specs.BTreeMap as tree
use Rattle.dns_rules.specs.Nsec3Verdict.{parameters_in}
use Rattle.dns_aggressive.proofs.Groups.{begun, joined, key_cmp}
use Rattle.dns_aggressive.proofs.nsec3_groups.Nsec3Groups.add.Goals as goal

pub returns-in-Some : goal.returns-in-Some
returns-in-Some c = λ list h.
    joined c.args.self.now.groups (c.get_mut.follows.lender c.push.new.self) c.args.self.now.firsts.items
    (c.nsec3.inside.iterations, c.as_slice.result) c.in-Some.group.now c.push.new.self list c.args.nsec3
    (ap (λ s. record { iterations = c.nsec3.inside.iterations; salt = s }) c.as_slice.ensures
    ∙ ap parameters_in c.nsec3.view_is)
    c.in-Some.ensures.value c.in_ok-push.ensures.items ((c.get_mut.follows.holds c.push.new.self).3 (search rules)) h

pub returns : goal.returns
returns c = λ list h.
    begun c.args.self.now.groups c.insert.new.self c.args.self.now.firsts.items c.push-3.new.self.items
    (c.nsec3.inside.iterations, c.as_slice.result) c.push-2.new.self list c.args.nsec3
    (ap (λ s. record { iterations = c.nsec3.inside.iterations; salt = s }) c.as_slice.ensures
    ∙ ap parameters_in c.nsec3.view_is)
    c.in_default.ensures.value
    (c.in_ok-push-2.ensures.items ∙ ap (λ ns. ns ++ c.args.nsec3 ∷ []) c.new-group.ensures.items)
    c.in_ok-push-3.ensures.items
    (subst (λ m. tree.Updates key_cmp m c.insert.new.self (c.nsec3.inside.iterations, c.as_slice.result)
    (Some c.push-2.new.self))
    c.get_mut.follows.holds-at-none c.in_ok-insert.ensures.updates) h
