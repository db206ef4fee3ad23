use Rattle.std.proofs.Common.{Ok, rules, ◌≡◌, None, Some, true, false, ap, ◌∙◌}
use Rattle.std.specs.Ordering.{nat_cmp}
use Rattle.std.specs.BTreeMap as tree
use Rattle.dns_multiplexer.specs.Machine.{has_id, reply_at, changed_at, with_item}
use Rattle.dns_multiplexer.specs.Tables.{takes_item, pushed}
use Rattle.dns_multiplexer.specs.Brought.{with_event}
use Rattle.dns_multiplexer.proofs.TableLemmas.{table_changed, pushed_id, pushed_table, unpushed_table}
use Rattle.dns_multiplexer.proofs.BroughtLemmas.{pushed_brought, unpushed_brought}
use Rattle.dns_multiplexer.proofs.TableCallLemmas.{stranger_told, arrival_told}
use Rattle.std.specs.List.{position}
use Rattle.dns_multiplexer.proofs.request_table.RequestTable.receive.Goals as goal

pub returns-in_default-clause-arrival : goal.returns-in_default-clause-arrival
returns-in_default-clause-arrival c =
    let none : (tree.get nat_cmp c.self.inside.holders) c.args.id ≡ None = search rules in
    stranger_told (tree.get nat_cmp c.self.inside.holders) (tree.get nat_cmp c.self.inside.queues)
    c.self.inside.count c.args.id c.self.invariant none
    ∙ ap (λ t. reply_at t.requests (position (has_id c.args.id) t.requests)) c.self.view_is

pub invariant_of-self : goal.invariant_of-self
invariant_of-self c =
    table_changed (tree.get nat_cmp c.self.inside.holders) (tree.get nat_cmp c.self.inside.queues)
    (tree.get nat_cmp c.push_item.new.queues) c.self.inside.count c.in-Some.holder.number
    (pushed (Ok c.args.response) c.args.event) (pushed_id (Ok c.args.response) c.args.event) c.push_item.ensures.after c.self.invariant

pub returns-then-not-push_item-clause-arrival : goal.returns-then-not-push_item-clause-arrival
returns-then-not-push_item-clause-arrival c =
    let held : (tree.get nat_cmp c.self.inside.holders) c.args.id ≡ Some c.in-Some.holder = search rules in
    let full : takes_item ((tree.get nat_cmp c.self.inside.queues) c.in-Some.holder.number) ≡ false = search rules in
    arrival_told (tree.get nat_cmp c.self.inside.holders) (tree.get nat_cmp c.self.inside.queues)
    c.self.inside.count c.args.id c.in-Some.holder false c.self.invariant held full
    ∙ ap (λ t. reply_at t.requests (position (has_id c.args.id) t.requests)) c.self.view_is

pub invariant_of-self-2 : goal.invariant_of-self-2
invariant_of-self-2 c =
    table_changed (tree.get nat_cmp c.self.inside.holders) (tree.get nat_cmp c.self.inside.queues)
    (tree.get nat_cmp c.push_item.new.queues) c.self.inside.count c.in-Some.holder.number
    (pushed (Ok c.args.response) c.args.event) (pushed_id (Ok c.args.response) c.args.event) c.push_item.ensures.after c.self.invariant

pub returns-clause-arrival : goal.returns-clause-arrival
returns-clause-arrival c =
    let held : (tree.get nat_cmp c.self.inside.holders) c.args.id ≡ Some c.in-Some.holder = search rules in
    let room : takes_item ((tree.get nat_cmp c.self.inside.queues) c.in-Some.holder.number) ≡ true = search rules in
    arrival_told (tree.get nat_cmp c.self.inside.holders) (tree.get nat_cmp c.self.inside.queues)
    c.self.inside.count c.args.id c.in-Some.holder true c.self.invariant held room
    ∙ ap (λ t. reply_at t.requests (position (has_id c.args.id) t.requests)) c.self.view_is

pub returns-clause-after : goal.returns-clause-after
returns-clause-after c =
    let room : takes_item ((tree.get nat_cmp c.self.inside.queues) c.in-Some.holder.number) ≡ true = search rules in
    pushed_table (tree.get nat_cmp c.self.inside.holders) (tree.get nat_cmp c.self.inside.queues)
    (tree.get nat_cmp c.push_item.new.queues) c.self.inside.count c.in-Some.holder.number
    (Ok c.args.response) c.args.event c.push_item.ensures.after room
    ∙ ap (λ t. changed_at c.in-Some.holder.number (with_item (Ok c.args.response)) t.requests) c.self.view_is

pub returns-clause-brought : goal.returns-clause-brought
returns-clause-brought c =
    let room : takes_item ((tree.get nat_cmp c.self.inside.queues) c.in-Some.holder.number) ≡ true = search rules in
    pushed_brought (tree.get nat_cmp c.self.inside.queues) (tree.get nat_cmp c.push_item.new.queues) c.self.inside.count
    c.in-Some.holder.number (Ok c.args.response) c.args.event c.push_item.ensures.after room
    ∙ ap (λ t. changed_at c.in-Some.holder.number (with_event c.args.event) t.brought) c.self.view_is

pub returns-then-not-push_item-clause-after : goal.returns-then-not-push_item-clause-after
returns-then-not-push_item-clause-after c =
    let full : takes_item ((tree.get nat_cmp c.self.inside.queues) c.in-Some.holder.number) ≡ false = search rules in
    unpushed_table (tree.get nat_cmp c.self.inside.holders) (tree.get nat_cmp c.self.inside.queues)
    (tree.get nat_cmp c.push_item.new.queues) c.self.inside.count c.in-Some.holder.number
    (Ok c.args.response) c.args.event c.push_item.ensures.after full
    ∙ ap (λ t. t.requests) c.self.view_is

pub returns-then-not-push_item-clause-brought : goal.returns-then-not-push_item-clause-brought
returns-then-not-push_item-clause-brought c =
    let full : takes_item ((tree.get nat_cmp c.self.inside.queues) c.in-Some.holder.number) ≡ false = search rules in
    unpushed_brought (tree.get nat_cmp c.self.inside.queues) (tree.get nat_cmp c.push_item.new.queues) c.self.inside.count
    c.in-Some.holder.number (Ok c.args.response) c.args.event c.push_item.ensures.after full
    ∙ ap (λ t. t.brought) c.self.view_is
