use Rattle.std.proofs.Common.{sym, ◌∙◌}
use Rattle.std.proofs.lemmas.Result.{err_from_is_err_and}
use Rattle.dns_lookup.proofs.InsertLemmas.{inserting_begun, inserting_on, inserting_shorter, inserting_failed, inserting_ends}
use Rattle.dns_lookup.proofs.lookup.keep.Goals as goal

pub entries-init : goal.entries-init
entries-init g c = inserting_begun _ _ _ _

pub entries-preserved : goal.entries-preserved
entries-preserved g c =
    inserting_on _ _ _ _ _ _ _ _ _ _ _ _ _ c.entries.invariant c.kept.ensures.terms
    (sym c.in-Some.is ∙ c.kept.ensures.gives) c.kept.ensures.leaves
    c.in_ok-insert.ensures.after c.insert.ensures.hits

pub entries-smaller : goal.entries-smaller
entries-smaller g c = inserting_shorter _ _ _ (sym c.in-Some.is ∙ c.kept.ensures.gives) c.kept.ensures.leaves

pub returns-in_err-insert-clause-terms : goal.returns-in_err-insert-clause-terms
returns-in_err-insert-clause-terms g c = c.kept.ensures.terms ∙ c.entries.invariant.terms

pub returns-in_err-insert-clause-left : goal.returns-in_err-insert-clause-left
returns-in_err-insert-clause-left g c =
    let p = err_from_is_err_and c.from_residual.result c.from_residual.ensures.1 in
    rw p.1 (inserting_failed _ _ _ _ _ _ _ _ _ c.entries.invariant c.in_err-insert.ensures.after)

pub returns-in_err-insert-clause-hits : goal.returns-in_err-insert-clause-hits
returns-in_err-insert-clause-hits g c = c.insert.ensures.hits ∙ c.entries.invariant.still

pub returns-clause-terms : goal.returns-clause-terms
returns-clause-terms g c = c.kept.ensures.terms ∙ c.entries.invariant.terms

pub returns-clause-left : goal.returns-clause-left
returns-clause-left g c =
    (inserting_ends _ _ _ _ _ _ _ _ _ _ c.entries.invariant c.kept.ensures.terms
    (sym c.in_default.is ∙ c.kept.ensures.gives) c.kept.ensures.leaves).left

pub returns-clause-hits : goal.returns-clause-hits
returns-clause-hits g c = c.entries.invariant.still

pub returns-clause-state : goal.returns-clause-state
returns-clause-state g c =
    (inserting_ends _ _ _ _ _ _ _ _ _ _ c.entries.invariant c.kept.ensures.terms
    (sym c.in_default.is ∙ c.kept.ensures.gives) c.kept.ensures.leaves).state
