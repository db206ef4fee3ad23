use Rattle.std.proofs.lemmas.Bool.{false≢true}
use Rattle.std.specs.Ordering.{nat_cmp}
use Rattle.std.specs.BTreeMap as tree
use Rattle.dns_multiplexer.proofs.TableEndLemmas.{failing_more, failed_all}
use Rattle.dns_multiplexer.proofs.TableCallLemmas.{removed_at, nothing_in}
use Rattle.dns_multiplexer.proofs.request_table.fail_all.Goals as goal

pub holders-preserved : goal.holders-preserved
holders-preserved c =
    failing_more c.args.fault c.args.event (tree.get nat_cmp c.args.holders.now) (tree.get nat_cmp c.args.queues.now)
    (tree.get nat_cmp c.holders.holders) (tree.get nat_cmp c.pop_first.new.self)
    (tree.get nat_cmp c.holders.queues) (tree.get nat_cmp c.push_item.new.queues) c.in-Some.field-0-0
    c.in-Some.holder c.holders.invariant c.in-Some.ensures.value
    (removed_at c.holders.holders c.pop_first.new.self c.in-Some.field-0-0 c.in-Some.ensures.updates)
    (rw c.from.ensures at c.push_item.ensures.after)

pub returns : goal.returns
returns c =
    rw c.in_default.ensures.unchanged
    (failed_all c.args.fault c.args.event (tree.get nat_cmp c.args.holders.now) (tree.get nat_cmp c.args.queues.now)
    (tree.get nat_cmp c.holders.holders) (tree.get nat_cmp c.holders.queues)
    c.holders.invariant (nothing_in c.holders.holders (λ more. false≢true (c.in_default.ensures.variant.1 more))))
