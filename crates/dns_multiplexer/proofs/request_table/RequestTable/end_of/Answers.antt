use Rattle.std.proofs.Common.{◌≡◌, [], true, false, is_some, slice_get, ap, sym, ◌∙◌}
use Rattle.std.specs.Ordering.{nat_cmp}
use Rattle.std.specs.BTreeMap as tree
use Rattle.dns_multiplexer.specs.Machine.{waiting_of}
use Rattle.dns_multiplexer.specs.Runs.{life_of}
use Rattle.dns_multiplexer.specs.Tables.{request_at, events_in}
use Rattle.dns_multiplexer.specs.Brought.{brought_at}
use Rattle.dns_multiplexer.proofs.TableLemmas.{life_in_table, waiting_in_table}
use Rattle.dns_multiplexer.proofs.TableCallLemmas.{removed_at, ends_as, forgotten_table, forgotten_is_table}
use Rattle.dns_multiplexer.proofs.BroughtLemmas.{brought_in_table, forgotten_brought}
use Rattle.dns_multiplexer.proofs.request_table.RequestTable.end_of.Goals as goal

pub returns-then-is_live-clause-taken : goal.returns-then-is_live-clause-taken
returns-then-is_live-clause-taken c = ends_as _ true (sym c.is_live.ensures ∙ c.if-is_live.true) c.requires.waiting

pub invariant_of-self : goal.invariant_of-self
invariant_of-self c =
    let f = (tree.get nat_cmp c.self.inside.holders) in
    let g = (tree.get nat_cmp c.self.inside.queues) in
    let dead : is_some (request_at f g c.args.number).life ≡ false =
    sym (ap is_some (life_in_table f g c.self.inside.count c.args.number c.self.invariant))
    ∙ ap (λ t. is_some (life_of (slice_get t.requests c.args.number))) c.self.view_is ∙ sym c.is_live.ensures
    ∙ c.if-is_live.false in
    forgotten_is_table f g (tree.get nat_cmp c.remove.new.self) c.self.inside.count c.args.number c.self.invariant
    (removed_at c.self.inside.queues c.remove.new.self c.args.number c.remove.ensures.updates) dead

pub returns-clause-taken : goal.returns-clause-taken
returns-clause-taken c = ends_as _ false (sym c.is_live.ensures ∙ c.if-is_live.false) c.requires.waiting

pub returns-clause-kept : goal.returns-clause-kept
returns-clause-kept c =
    let f = (tree.get nat_cmp c.self.inside.holders) in
    let g = (tree.get nat_cmp c.self.inside.queues) in
    let dead : is_some (request_at f g c.args.number).life ≡ false =
    sym (ap is_some (life_in_table f g c.self.inside.count c.args.number c.self.invariant))
    ∙ ap (λ t. is_some (life_of (slice_get t.requests c.args.number))) c.self.view_is ∙ sym c.is_live.ensures
    ∙ c.if-is_live.false in
    let none : (request_at f g c.args.number).waiting ≡ [] =
    sym (waiting_in_table f g c.self.inside.count c.args.number c.self.invariant)
    ∙ ap (λ t. waiting_of (slice_get t.requests c.args.number)) c.self.view_is ∙ c.requires.waiting in
    let gone = removed_at c.self.inside.queues c.remove.new.self c.args.number c.remove.ensures.updates in
    let unbrought : events_in (g c.args.number) ≡ [] =
    sym (brought_in_table f g c.self.inside.count c.args.number c.self.invariant)
    ∙ ap (λ t. brought_at t.brought c.args.number) c.self.view_is ∙ c.requires.brought in
    rw (
      forgotten_table f g (tree.get nat_cmp c.remove.new.self) c.self.inside.count c.args.number c.self.invariant gone dead none,
      forgotten_brought g (tree.get nat_cmp c.remove.new.self) c.self.inside.count c.args.number gone unbrought,
    ) c.self.view_is
