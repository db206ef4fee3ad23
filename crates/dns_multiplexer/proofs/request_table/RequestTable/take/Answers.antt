use Rattle.std.proofs.Common.{Some, drop, slice_get, ap, sym, ◌∙◌, refl}
use Rattle.std.specs.Ordering.{nat_cmp}
use Rattle.std.specs.BTreeMap as tree
use Rattle.dns_handle.specs.Replies.{reply_of}
use Rattle.dns_multiplexer.specs.Machine.{changed_at, without_first, taken_from}
use Rattle.dns_multiplexer.specs.Brought.{brought_at}
use Rattle.dns_multiplexer.specs.Events.{Item}
use Rattle.dns_multiplexer.specs.Tables.{without_item}
use Rattle.dns_multiplexer.proofs.TableLemmas.{table_changed, popped_table}
use Rattle.dns_multiplexer.proofs.TableCallLemmas.{takes_first, nothing_left, left_told}
use Rattle.dns_multiplexer.proofs.BroughtLemmas.{popped_brought, first_in_table, none_brought}
use Rattle.dns_multiplexer.proofs.request_table.RequestTable.take.Goals as goal

pub invariant_of-self-in_default : goal.invariant_of-self-in_default
invariant_of-self-in_default c = table_changed (tree.get nat_cmp c.self.inside.holders)
    (tree.get nat_cmp c.self.inside.queues) (tree.get nat_cmp c.pop_item.new.queues) c.self.inside.count
    c.args.number without_item (λ q. refl) c.pop_item.ensures.after c.self.invariant

pub end_of-requires-clause-waiting : goal.end_of-requires-clause-waiting
end_of-requires-clause-waiting c = nothing_left (tree.get nat_cmp c.self.inside.holders) (tree.get nat_cmp c.self.inside.queues)
    (tree.get nat_cmp c.pop_item.new.queues) c.self.inside.count c.args.number c.self.invariant c.pop_item.ensures.after
    c.in_default.ensures.item

pub end_of-requires-clause-brought : goal.end_of-requires-clause-brought
end_of-requires-clause-brought c = none_brought (tree.get nat_cmp c.self.inside.holders) (tree.get nat_cmp c.self.inside.queues)
    (tree.get nat_cmp c.pop_item.new.queues) c.self.inside.count c.args.number
    (table_changed (tree.get nat_cmp c.self.inside.holders) (tree.get nat_cmp c.self.inside.queues)
    (tree.get nat_cmp c.pop_item.new.queues) c.self.inside.count c.args.number without_item (λ q. refl)
    c.pop_item.ensures.after c.self.invariant)
    c.pop_item.ensures.after c.in_default.ensures.event

pub returns-in_default-clause-taken : goal.returns-in_default-clause-taken
returns-in_default-clause-taken c = c.end_of.ensures.taken
    ∙ left_told (tree.get nat_cmp c.self.inside.holders) (tree.get nat_cmp c.self.inside.queues)
    (tree.get nat_cmp c.pop_item.new.queues) c.self.inside.count c.args.number c.self.invariant c.pop_item.ensures.after
    c.in_default.ensures.item ∙ ap (λ t. taken_from (slice_get t.requests c.args.number)) c.self.view_is

pub returns-in_default-clause-event : goal.returns-in_default-clause-event
returns-in_default-clause-event c = c.in_default.ensures.event
    ∙ first_in_table (tree.get nat_cmp c.self.inside.holders) (tree.get nat_cmp c.self.inside.queues) c.self.inside.count
    c.args.number c.self.invariant ∙ ap (λ t. slice_get (brought_at t.brought c.args.number) 0) c.self.view_is

pub returns-in_default-clause-after : goal.returns-in_default-clause-after
returns-in_default-clause-after c = ap (λ t. t.requests) c.end_of.ensures.kept
    ∙ popped_table (tree.get nat_cmp c.self.inside.holders) (tree.get nat_cmp c.self.inside.queues)
    (tree.get nat_cmp c.pop_item.new.queues) c.self.inside.count c.args.number c.pop_item.ensures.after
    ∙ ap (λ t. changed_at c.args.number without_first t.requests) c.self.view_is

pub returns-in_default-clause-brought : goal.returns-in_default-clause-brought
returns-in_default-clause-brought c = ap (λ t. t.brought) c.end_of.ensures.kept
    ∙ popped_brought (tree.get nat_cmp c.self.inside.queues) (tree.get nat_cmp c.pop_item.new.queues) c.self.inside.count
    c.args.number c.pop_item.ensures.after ∙ ap (λ t. changed_at c.args.number (drop 1) t.brought) c.self.view_is

pub invariant_of-self : goal.invariant_of-self
invariant_of-self c = table_changed (tree.get nat_cmp c.self.inside.holders)
    (tree.get nat_cmp c.self.inside.queues) (tree.get nat_cmp c.pop_item.new.queues) c.self.inside.count
    c.args.number without_item (λ q. refl) c.pop_item.ensures.after c.self.invariant

pub returns-clause-taken : goal.returns-clause-taken
returns-clause-taken c =
    ap Item c.into_parts-item.ensures.item
    ∙ takes_first (tree.get nat_cmp c.self.inside.holders) (tree.get nat_cmp c.self.inside.queues)
    c.self.inside.count c.args.number c.in-Some.brought.item c.self.invariant c.in-Some.ensures.item
    ∙ ap (λ t. taken_from (slice_get t.requests c.args.number)) c.self.view_is

pub returns-clause-event : goal.returns-clause-event
returns-clause-event c =
    ap Some c.into_parts-item.ensures.event ∙ c.in-Some.ensures.event
    ∙ first_in_table (tree.get nat_cmp c.self.inside.holders) (tree.get nat_cmp c.self.inside.queues) c.self.inside.count
    c.args.number c.self.invariant ∙ ap (λ t. slice_get (brought_at t.brought c.args.number) 0) c.self.view_is

pub returns-clause-after : goal.returns-clause-after
returns-clause-after c = popped_table (tree.get nat_cmp c.self.inside.holders)
    (tree.get nat_cmp c.self.inside.queues) (tree.get nat_cmp c.pop_item.new.queues) c.self.inside.count
    c.args.number c.pop_item.ensures.after ∙ ap (λ t. changed_at c.args.number without_first t.requests) c.self.view_is

pub returns-clause-brought : goal.returns-clause-brought
returns-clause-brought c = popped_brought (tree.get nat_cmp c.self.inside.queues)
    (tree.get nat_cmp c.pop_item.new.queues) c.self.inside.count c.args.number c.pop_item.ensures.after
    ∙ ap (λ t. changed_at c.args.number (drop 1) t.brought) c.self.view_is
