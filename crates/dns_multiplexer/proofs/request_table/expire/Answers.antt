use Rattle.std.proofs.Common.{rules, ◌∙◌, ◌+◌, nat_lt}
use Rattle.std.specs.Ordering.{nat_cmp}
use Rattle.std.specs.BTreeMap as tree
use Rattle.std.proofs.lemmas.Map.Made.{filter_same_pairs}
use Rattle.dns_multiplexer.proofs.TableCallLemmas.{retained, filtered_still}
use Rattle.dns_multiplexer.proofs.request_table.expire.Goals as goal

pub returns : goal.returns
returns c = λ id.
    retained c.args.holders.now c.retain.new.self (λ holder. nat_lt c.args.now (holder.moment + c.args.timeout))
    c.retain.ensures.was_ordered
    (filter_same_pairs _ (λ e. nat_lt c.args.now (e.1.moment + c.args.timeout)) _ (λ k v b w f' t. search rules) _ _
    c.retain.ensures.filtered) id
    ∙ filtered_still c.args.timeout c.args.now (tree.get nat_cmp c.args.holders.now id)
