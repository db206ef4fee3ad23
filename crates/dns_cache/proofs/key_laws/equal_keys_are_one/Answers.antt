use Rattle.std.proofs.Common.{sym, ◌∙◌}
use Rattle.std.specs.Cmp.{Equal-is}
use Rattle.dns_cache.specs.KeyOrder.{key_cmp}
use Rattle.dns_cache.specs.KeyLaws.{key_eq-Decides, key_ties, key_total}
use Rattle.dns_cache.proofs.key_laws.equal_keys_are_one.Goals as goal

pub returns-clause-one : goal.returns-clause-one
returns-clause-one c = key_eq-Decides c.args._a.now c.args._b.now

pub returns-clause-order : goal.returns-clause-order
returns-clause-order c =
    let ties = key_ties c.args._a.now c.args._b.now in
    let equal = Equal-is (key_cmp c.args._a.now c.args._b.now) in
    (λ h. equal.0 (sym ties ∙ h), λ h. ties ∙ equal.1 h)

pub returns-clause-turned : goal.returns-clause-turned
returns-clause-turned c = key_total.antisymm c.args._b.now c.args._a.now

pub returns-clause-after : goal.returns-clause-after
returns-clause-after c = key_total.trans c.args._a.now c.args._b.now c.args._c.now
