use Rattle.std.proofs.Common.{ap, sym, ◌∙◌}
use Rattle.std.specs.Ordering.{nat_cmp}
use Rattle.std.specs.BTreeMap as tree
use Rattle.dns_multiplexer.specs.Machine.{is_taken_id}
use Rattle.dns_multiplexer.proofs.TableLemmas.{taken_id}
use Rattle.dns_multiplexer.proofs.request_table.RequestTable.has_id.Goals as goal

pub returns : goal.returns
returns c = c.contains_key.ensures
    ∙ sym (taken_id (tree.get nat_cmp c.self.inside.holders) (tree.get nat_cmp c.self.inside.queues) c.self.inside.count
    c.args.id c.self.invariant) ∙ ap (λ t. is_taken_id t.requests c.args.id) c.self.view_is
