use Rattle.std.proofs.Common.{◌≡◌, rules, refl, ap, ◌∙◌, ◌∷◌, [], ◌++◌}
use Rattle.dns_handle.specs.Glue.{vec_items, bytes_cmp}
use Rattle.std.specs.BTreeMap as tree
use Rattle.dns_handle.proofs.GlueLemmas.{joined}
use Rattle.dns_handle.proofs.glue.join_at.Goals as goal

pub returns-in-Some : goal.returns-in-Some
returns-in-Some c =
    joined c.args.addresses.now (c.get_mut.follows.lender c.push.new.self) c.args.next c.args.key c.push.new.self c.requires
    (c.in_ok-push.ensures.items ∙ ap (λ o. vec_items o ++ c.args.next ∷ []) c.in-Some.ensures.value)
    ((c.get_mut.follows.holds c.push.new.self).3 (search rules))

pub returns : goal.returns
returns c =
    let empty : [] ≡ vec_items (tree.get bytes_cmp c.args.addresses.now c.args.key) = ap vec_items c.in_default.ensures.value in
    let updates = rw c.get_mut.follows.holds-at-none at c.in_ok-insert.ensures.updates in
    let one : c.in_ok-own.own.items ≡ vec_items (tree.get bytes_cmp c.args.addresses.now c.args.key) ++ c.args.next ∷ [] =
    rw (c.in_ok-own.ensures, ← empty) refl in
    joined c.args.addresses.now c.insert.new.self c.args.next c.args.key c.in_ok-own.own c.requires one updates
