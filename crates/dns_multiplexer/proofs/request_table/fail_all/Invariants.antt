use Rattle.std.specs.Ordering.{nat_cmp}
use Rattle.std.specs.BTreeMap as tree
use Rattle.dns_multiplexer.proofs.TableEndLemmas.{Failing}
use Rattle.dns_multiplexer.proofs.request_table.fail_all.Given as goal

abbrev pub invariant-holders : goal.invariant-holders
invariant-holders l =
    Failing l.fault l.event (tree.get nat_cmp l.initial.holders) (tree.get nat_cmp l.initial.queues)
    (tree.get nat_cmp l.holders) (tree.get nat_cmp l.queues)

abbrev pub decreases-holders : goal.decreases-holders
decreases-holders l = tree.btree_map_len l.holders
