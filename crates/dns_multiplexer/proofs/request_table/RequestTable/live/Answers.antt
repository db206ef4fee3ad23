use Rattle.std.proofs.Common.{ap, sym, ◌∙◌}
use Rattle.std.specs.Ordering.{nat_cmp}
use Rattle.std.specs.BTreeMap as tree
use Rattle.dns_multiplexer.specs.Machine.{live_count}
use Rattle.dns_multiplexer.proofs.LiveCountLemmas.{live_in_table}
use Rattle.dns_multiplexer.proofs.request_table.RequestTable.live.Goals as goal

pub returns : goal.returns
returns c = c.len.ensures.len
    ∙ sym (live_in_table c.self.inside.holders (tree.get nat_cmp c.self.inside.queues) c.self.inside.count
    c.len.ensures.ordered c.self.invariant) ∙ ap (λ t. live_count t.requests) c.self.view_is
