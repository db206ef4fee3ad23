use Rattle.std.proofs.Common.{[], ◌==◌, if◌then◌else◌, rules, ◌≡◌, ℕ, None, true, false, is_some, ap, sym, ◌∙◌, refl, inl}
use Rattle.std.specs.Ordering.{nat_cmp}
use Rattle.std.specs.BTreeMap as tree
use Rattle.std.specs.Option.{option_map}
use Rattle.dns_multiplexer.specs.Machine.{changed_at, cancelled}
use Rattle.dns_multiplexer.specs.Tables.{life_under, request_in, request_at}
use Rattle.dns_multiplexer.proofs.TableEndLemmas.{cancelled_table, cancelled_is_table}
use Rattle.dns_multiplexer.proofs.TableCallLemmas.{removed_at, away_dead, cancel_held, away_cancelled}
use Rattle.dns_multiplexer.proofs.BroughtLemmas.{gone_brought}
use Rattle.dns_multiplexer.proofs.request_table.RequestTable.cancel.Goals as goal

pub invariant_of-self : goal.invariant_of-self
invariant_of-self c =
    let gone = removed_at c.self.inside.queues c.remove.new.self c.args.number c.remove.ensures.updates in
    let dead : is_some (request_at (tree.get nat_cmp c.self.inside.holders) (tree.get nat_cmp c.self.inside.queues) c.args.number).life
    ≡ false = ap (λ q. is_some (request_in (tree.get nat_cmp c.self.inside.holders) c.args.number q).life)
    (sym c.in_default.ensures.value) in
    cancelled_is_table (tree.get nat_cmp c.self.inside.holders) (tree.get nat_cmp c.self.inside.holders)
    (tree.get nat_cmp c.self.inside.queues) (tree.get nat_cmp c.remove.new.self) c.self.inside.count
    c.args.number (λ i. inl refl)
    (away_dead (tree.get nat_cmp c.self.inside.holders) (tree.get nat_cmp c.self.inside.queues) c.self.inside.count
    c.args.number c.self.invariant dead) gone c.self.invariant

pub returns-in_default-clause-after : goal.returns-in_default-clause-after
returns-in_default-clause-after c =
    cancelled_table (tree.get nat_cmp c.self.inside.holders) (tree.get nat_cmp c.self.inside.holders)
    (tree.get nat_cmp c.self.inside.queues) (tree.get nat_cmp c.remove.new.self) c.self.inside.count
    c.args.number (λ i. inl refl)
    (removed_at c.self.inside.queues c.remove.new.self c.args.number c.remove.ensures.updates)
    ∙ ap (λ t. changed_at c.args.number cancelled t.requests) c.self.view_is

pub invariant_of-self-then-is_held_by : goal.invariant_of-self-then-is_held_by
invariant_of-self-then-is_held_by c =
    let id = c.in-Some.queue.id in
    let new_f = tree.get nat_cmp c.remove-then-is_held_by.new.self in
    let lives : is_some (life_under id c.args.number ((tree.get nat_cmp c.self.inside.holders) id)) ≡
    true = search rules in
    let held : (i : ℕ) → new_f i ≡
    (if id == i then None else (tree.get nat_cmp c.self.inside.holders) i) = removed_at c.self.inside.holders
    c.remove-then-is_held_by.new.self id (search rules) in
    let known = ap (option_map (λ q. q.id)) (sym c.in-Some.ensures.value) in
    cancelled_is_table (tree.get nat_cmp c.self.inside.holders) new_f (tree.get nat_cmp c.self.inside.queues)
    (tree.get nat_cmp c.remove.new.self) c.self.inside.count c.args.number
    (cancel_held (tree.get nat_cmp c.self.inside.holders) new_f id c.args.number lives held)
    (away_cancelled (tree.get nat_cmp c.self.inside.holders) new_f (tree.get nat_cmp c.self.inside.queues) c.self.inside.count
    id c.args.number c.self.invariant known held)
    (removed_at c.self.inside.queues c.remove.new.self c.args.number c.remove.ensures.updates) c.self.invariant

pub returns-then-is_held_by-clause-after : goal.returns-then-is_held_by-clause-after
returns-then-is_held_by-clause-after c =
    let id = c.in-Some.queue.id in
    let new_f = tree.get nat_cmp c.remove-then-is_held_by.new.self in
    let lives : is_some (life_under id c.args.number ((tree.get nat_cmp c.self.inside.holders) id)) ≡
    true = search rules in
    let held : (i : ℕ) → new_f i ≡
    (if id == i then None else (tree.get nat_cmp c.self.inside.holders) i) = removed_at c.self.inside.holders
    c.remove-then-is_held_by.new.self id (search rules) in
    cancelled_table (tree.get nat_cmp c.self.inside.holders) new_f (tree.get nat_cmp c.self.inside.queues)
    (tree.get nat_cmp c.remove.new.self) c.self.inside.count c.args.number
    (cancel_held (tree.get nat_cmp c.self.inside.holders) new_f id c.args.number lives held)
    (removed_at c.self.inside.queues c.remove.new.self c.args.number c.remove.ensures.updates)
    ∙ ap (λ t. changed_at c.args.number cancelled t.requests) c.self.view_is

pub invariant_of-self-else-is_held_by : goal.invariant_of-self-else-is_held_by
invariant_of-self-else-is_held_by c =
    let id = c.in-Some.queue.id in
    let over : is_some (life_under id c.args.number ((tree.get nat_cmp c.self.inside.holders) id)) ≡
    false = search rules in
    let dead : is_some (request_at (tree.get nat_cmp c.self.inside.holders) (tree.get nat_cmp c.self.inside.queues) c.args.number).life
    ≡ false = ap (λ q. is_some (request_in (tree.get nat_cmp c.self.inside.holders) c.args.number q).life)
    (sym c.in-Some.ensures.value) ∙ over in
    cancelled_is_table (tree.get nat_cmp c.self.inside.holders) (tree.get nat_cmp c.self.inside.holders)
    (tree.get nat_cmp c.self.inside.queues) (tree.get nat_cmp c.remove.new.self) c.self.inside.count
    c.args.number (λ i. inl refl)
    (away_dead (tree.get nat_cmp c.self.inside.holders) (tree.get nat_cmp c.self.inside.queues) c.self.inside.count
    c.args.number c.self.invariant dead)
    (removed_at c.self.inside.queues c.remove.new.self c.args.number c.remove.ensures.updates) c.self.invariant

pub returns-clause-after : goal.returns-clause-after
returns-clause-after c =
    cancelled_table (tree.get nat_cmp c.self.inside.holders) (tree.get nat_cmp c.self.inside.holders)
    (tree.get nat_cmp c.self.inside.queues) (tree.get nat_cmp c.remove.new.self) c.self.inside.count
    c.args.number (λ i. inl refl)
    (removed_at c.self.inside.queues c.remove.new.self c.args.number c.remove.ensures.updates)
    ∙ ap (λ t. changed_at c.args.number cancelled t.requests) c.self.view_is

pub returns-in_default-clause-brought : goal.returns-in_default-clause-brought
returns-in_default-clause-brought c =
    gone_brought (tree.get nat_cmp c.self.inside.queues) (tree.get nat_cmp c.remove.new.self) c.self.inside.count
    c.args.number (removed_at c.self.inside.queues c.remove.new.self c.args.number c.remove.ensures.updates)
    ∙ ap (λ t. changed_at c.args.number (λ own. []) t.brought) c.self.view_is

pub returns-then-is_held_by-clause-brought : goal.returns-then-is_held_by-clause-brought
returns-then-is_held_by-clause-brought c =
    gone_brought (tree.get nat_cmp c.self.inside.queues) (tree.get nat_cmp c.remove.new.self) c.self.inside.count
    c.args.number (removed_at c.self.inside.queues c.remove.new.self c.args.number c.remove.ensures.updates)
    ∙ ap (λ t. changed_at c.args.number (λ own. []) t.brought) c.self.view_is

pub returns-clause-brought : goal.returns-clause-brought
returns-clause-brought c =
    gone_brought (tree.get nat_cmp c.self.inside.queues) (tree.get nat_cmp c.remove.new.self) c.self.inside.count
    c.args.number (removed_at c.self.inside.queues c.remove.new.self c.args.number c.remove.ensures.updates)
    ∙ ap (λ t. changed_at c.args.number (λ own. []) t.brought) c.self.view_is
