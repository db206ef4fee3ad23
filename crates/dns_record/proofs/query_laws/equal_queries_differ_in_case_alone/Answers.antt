use Rattle.std.proofs.Common.{sym, ◌∙◌}
use Rattle.std.specs.Cmp.{Equal-is}
use Rattle.std.specs.Ordering.{nat_cmp, ordering_then}
use Rattle.dns_model.specs.Names.{name_cmp}
use Rattle.dns_record.proofs.QueryLemmas.{question_eq-parts, question_ties}
use Rattle.dns_record.proofs.query_laws.equal_queries_differ_in_case_alone.Goals as goal

pub returns-clause-folds : goal.returns-clause-folds
returns-clause-folds c = question_eq-parts c.args._a.now c.args._b.now

pub returns-clause-order : goal.returns-clause-order
returns-clause-order c =
    let a = c.args._a.now in
    let b = c.args._b.now in
    let ties = question_ties a b in
    let equal = Equal-is (ordering_then (name_cmp a.owner b.owner) (ordering_then (nat_cmp a.rtype b.rtype) (nat_cmp a.class b.class))) in
    (λ h. equal.0 (sym ties ∙ h), λ h. ties ∙ equal.1 h)
