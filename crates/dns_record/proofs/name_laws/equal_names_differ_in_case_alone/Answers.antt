use Rattle.std.proofs.Common.{sym, ◌∙◌}
use Rattle.std.specs.Cmp.{Equal-is}
use Rattle.dns_model.specs.Names.{name_cmp}
use Rattle.dns_model.proofs.NameLemmas.{name_eq-Decides}
use Rattle.dns_model.proofs.OrderLemmas.{name_ties}
use Rattle.dns_record.proofs.name_laws.equal_names_differ_in_case_alone.Goals as goal

pub returns-clause-folds : goal.returns-clause-folds
returns-clause-folds c = name_eq-Decides c.args._a.now c.args._b.now

pub returns-clause-order : goal.returns-clause-order
returns-clause-order c =
    let ties = name_ties c.args._a.now c.args._b.now in
    let equal = Equal-is (name_cmp c.args._a.now c.args._b.now) in
    (λ h. equal.0 (sym ties ∙ h), λ h. ties ∙ equal.1 h)
