use Rattle.std.proofs.Common.{rules, ◌≡◌, ◌∷◌, ◌++◌, [], false, length, ap, sym, ◌∙◌, refl, ◌+◌}
use Rattle.std.specs.Ordering.{nat_cmp}
use Rattle.std.specs.BTreeMap as tree
use Rattle.dns_multiplexer.specs.declared.request_table.Holder.{Holder}
use Rattle.dns_multiplexer.specs.Machine.{is_taken_id, sent_under}
use Rattle.dns_multiplexer.specs.Tables.{requests_of}
use Rattle.dns_multiplexer.proofs.TableLemmas.{length_table}
use Rattle.dns_multiplexer.proofs.TableEndLemmas.{added_table, added_is_table}
use Rattle.dns_multiplexer.proofs.TableCallLemmas.{unadded_is_table}
use Rattle.dns_multiplexer.proofs.BroughtLemmas.{added_brought}
use Rattle.dns_multiplexer.proofs.request_table.RequestTable.open.Goals as goal

pub invariant_of-self : goal.invariant_of-self
invariant_of-self c = unadded_is_table (tree.get nat_cmp c.self.inside.holders)
    (tree.get nat_cmp c.add.new.holders) (tree.get nat_cmp c.self.inside.queues)
    (tree.get nat_cmp c.add.new.queues) c.self.inside.count c.self.invariant c.in_err-add.ensures.err

pub invariant_of-self-2 : goal.invariant_of-self-2
invariant_of-self-2 c =
    let next : c.in-Some.next ≡ c.self.inside.count + 1 = search rules in
    let holder : Holder = record { number = c.self.inside.count; moment = c.args.moment } in
    rw next (added_is_table (tree.get nat_cmp c.self.inside.holders) (tree.get nat_cmp c.add.new.holders)
    (tree.get nat_cmp c.self.inside.queues) (tree.get nat_cmp c.add.new.queues) c.self.inside.count c.args.id holder
    c.self.invariant refl c.in_ok-add.ensures.ok)

pub returns-clause-number : goal.returns-clause-number
returns-clause-number c = sym
    (length_table (tree.get nat_cmp c.self.inside.holders) (tree.get nat_cmp c.self.inside.queues) c.self.inside.count)
    ∙ ap (λ t. length t.requests) c.self.view_is

pub returns-clause-ok : goal.returns-clause-ok
returns-clause-ok c =
    let next : c.in-Some.next ≡ c.self.inside.count + 1 = search rules in
    let holder : Holder = record { number = c.self.inside.count; moment = c.args.moment } in
    let free : is_taken_id
    (requests_of (tree.get nat_cmp c.self.inside.holders) (tree.get nat_cmp c.self.inside.queues) c.self.inside.count) c.args.id
    ≡ false = ap (λ t. is_taken_id t.requests c.args.id) c.self.view_is ∙ c.requires in
    rw next
    (added_table (tree.get nat_cmp c.self.inside.holders) (tree.get nat_cmp c.add.new.holders)
    (tree.get nat_cmp c.self.inside.queues) (tree.get nat_cmp c.add.new.queues) c.self.inside.count c.args.id holder
    c.self.invariant free refl c.in_ok-add.ensures.ok
    ∙ ap (λ t. t.requests ++ sent_under c.args.id c.args.moment ∷ []) c.self.view_is)

pub returns-clause-brought : goal.returns-clause-brought
returns-clause-brought c =
    let next : c.in-Some.next ≡ c.self.inside.count + 1 = search rules in
    let holder : Holder = record { number = c.self.inside.count; moment = c.args.moment } in
    rw next
    (added_brought (tree.get nat_cmp c.self.inside.holders) (tree.get nat_cmp c.add.new.holders)
    (tree.get nat_cmp c.self.inside.queues) (tree.get nat_cmp c.add.new.queues) c.self.inside.count c.args.id holder
    refl c.in_ok-add.ensures.ok
    ∙ ap (λ t. t.brought ++ [] ∷ []) c.self.view_is)
