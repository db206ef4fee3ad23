use Rattle.std.proofs.Common.{ap}
use Rattle.std.specs.Ordering.{nat_cmp}
use Rattle.std.specs.BTreeMap as tree
use Rattle.dns_multiplexer.specs.Tables.{events_of}
use Rattle.dns_multiplexer.proofs.TableEndLemmas.{ticked_table, ticked_is_table}
use Rattle.dns_multiplexer.proofs.request_table.RequestTable.tick.Goals as goal

pub invariant_of-self : goal.invariant_of-self
invariant_of-self c = ticked_is_table (tree.get nat_cmp c.self.inside.holders)
    (tree.get nat_cmp c.expire.new.holders) (tree.get nat_cmp c.self.inside.queues) c.self.inside.count
    c.args.timeout c.args.now c.expire.ensures c.self.invariant

pub returns : goal.returns
returns c =
    rw (← c.self.view_is) (ap (λ rs. record {
      requests = rs;
      brought = events_of (tree.get nat_cmp c.self.inside.queues) c.self.inside.count;
    })
    (ticked_table (tree.get nat_cmp c.self.inside.holders) (tree.get nat_cmp c.expire.new.holders)
    (tree.get nat_cmp c.self.inside.queues) c.self.inside.count c.args.timeout c.args.now c.expire.ensures))
