use Rattle.std.proofs.Common.{is_some, slice_get, ap, sym, ◌∙◌}
use Rattle.std.specs.Ordering.{nat_cmp}
use Rattle.std.specs.BTreeMap as tree
use Rattle.dns_multiplexer.specs.Runs.{life_of}
use Rattle.dns_multiplexer.specs.Tables.{life_under, request_in}
use Rattle.dns_multiplexer.proofs.TableLemmas.{life_in_table}
use Rattle.dns_multiplexer.proofs.request_table.RequestTable.is_live.Goals as goal

pub returns-in-None : goal.returns-in-None
returns-in-None c =
    let f = (tree.get nat_cmp c.self.inside.holders) in
    let number = c.args.number in
    ap (λ q. is_some (request_in f number q).life) c.in-None.ensures.value
    ∙ sym (ap is_some (life_in_table f (tree.get nat_cmp c.self.inside.queues) c.self.inside.count number c.self.invariant))
    ∙ ap (λ t. is_some (life_of (slice_get t.requests number))) c.self.view_is

pub returns-in-Some : goal.returns-in-Some
returns-in-Some c =
    let f = (tree.get nat_cmp c.self.inside.holders) in
    let number = c.args.number in
    c.is_held_by.ensures ∙ ap (λ i. is_some (life_under i number (f i))) c.id.ensures
    ∙ ap (λ q. is_some (request_in f number q).life) c.in-Some.ensures.value
    ∙ sym (ap is_some (life_in_table f (tree.get nat_cmp c.self.inside.queues) c.self.inside.count number c.self.invariant))
    ∙ ap (λ t. is_some (life_of (slice_get t.requests number))) c.self.view_is
