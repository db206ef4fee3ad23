use Rattle.std.proofs.Common.{sym, ◌∙◌}
use Rattle.std.proofs.lemmas.Result.{err_from_is_err_and}
use Rattle.dns_audit.proofs.ChainLemmas.{more_here, stop_here, end_here, shorter_here}
use Rattle.dns_audit.proofs.chains.chains_at.Goals as goal

pub returns-in_err-chain : goal.returns-in_err-chain
returns-in_err-chain c =
    let p = err_from_is_err_and c.from_residual.result c.from_residual.ensures.1 in
    rw (p.1, p.2)
    (stop_here _ c.chains.here _ c.in_err-chain.field-0.0 (sym c.begins_chain.ensures ∙ c.chains-test.true)
    c.chains.invariant c.in_err-chain.ensures)

pub chains-smaller : goal.chains-smaller
chains-smaller c =
    shorter_here c.chains.here c.in_ok-chain.chain c.in_ok-chain.rest (sym c.begins_chain.ensures ∙ c.chains-test.true)
    c.in_ok-chain.ensures

pub chains-preserved : goal.chains-preserved
chains-preserved c =
    rw c.in_ok-push.ensures.items
    (more_here c.chains.all.items c.chains.here c.in_ok-chain.chain c.in_ok-chain.rest _
    (sym c.begins_chain.ensures ∙ c.chains-test.true) c.chains.invariant c.in_ok-chain.ensures)

pub returns : goal.returns
returns c =
    end_here _ c.chains.here _ (sym c.begins_chain.ensures ∙ c.chains-test.false) c.chains.invariant
