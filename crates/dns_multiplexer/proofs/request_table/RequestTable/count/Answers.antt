use Rattle.std.proofs.Common.{length, ap, sym, ◌∙◌}
use Rattle.std.specs.Ordering.{nat_cmp}
use Rattle.std.specs.BTreeMap as tree
use Rattle.dns_multiplexer.proofs.TableLemmas.{length_table}
use Rattle.dns_multiplexer.proofs.BroughtLemmas.{length_brought}
use Rattle.dns_multiplexer.proofs.request_table.RequestTable.count.Goals as goal

pub returns-clause-requests : goal.returns-clause-requests
returns-clause-requests c = sym
    (length_table (tree.get nat_cmp c.self.inside.holders) (tree.get nat_cmp c.self.inside.queues) c.self.inside.count)
    ∙ ap (λ t. length t.requests) c.self.view_is

pub returns-clause-brought : goal.returns-clause-brought
returns-clause-brought c = sym (length_brought (tree.get nat_cmp c.self.inside.queues) c.self.inside.count)
    ∙ ap (λ t. length t.brought) c.self.view_is
