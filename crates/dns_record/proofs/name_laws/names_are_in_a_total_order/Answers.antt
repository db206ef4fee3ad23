use Rattle.std.proofs.Common.{sym, ◌∙◌}
use Rattle.std.specs.Cmp.{Equal-is}
use Rattle.dns_model.specs.Names.{name_cmp}
use Rattle.dns_model.proofs.OrderLemmas.{name_ties, name_total}
use Rattle.dns_record.proofs.name_laws.names_are_in_a_total_order.Goals as goal

pub returns-clause-turned : goal.returns-clause-turned
returns-clause-turned c = name_total.antisymm c.args._b.now c.args._a.now

pub returns-clause-after : goal.returns-clause-after
returns-clause-after c = name_total.trans c.args._a.now c.args._b.now c.args._c.now

pub returns-clause-place : goal.returns-clause-place
returns-clause-place c h =
    let ties = name_ties c.args._a.now c.args._b.now in
    let equal = (Equal-is (name_cmp c.args._a.now c.args._b.now)).0 (sym ties ∙ h) in
    name_total.congr c.args._a.now c.args._b.now c.args._c.now equal
