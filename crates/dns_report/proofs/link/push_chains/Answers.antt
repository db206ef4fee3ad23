use Rattle.std.proofs.Common.{◌++◌, map, refl, sym, ap, ◌∙◌}
use Rattle.std.specs.List.{flat_map, list_all}
use Rattle.dns_record.proofs.Copies.{copied_all}
use Rattle.dns_report.specs.Report.{chain_text}
use Rattle.dns_report.specs.View.{chain_view, fitting_chain}
use Rattle.dns_report.proofs.TurnLemmas.{fits_more, lines_more, said_more}
use Rattle.dns_report.proofs.link.push_chains.Goals as goal

pub loop-chain-preserved : goal.loop-chain-preserved
loop-chain-preserved c =
    let x = c.chain-item.result in
    let i = c.loop-chain.chain-index in
    let more = said_more chain_view c.args.chains.now i x c.loop-chain-test.true c.chain-item.is in (
      lines_more chain_text _ _ _ c.args.into.now.items _ _ more
          c.loop-chain.invariant.0 c.in_ok-push_chain.ensures.ok,
      fits_more fitting_chain _ _ _ more c.loop-chain.invariant.1 c.in_ok-push_chain.ensures.fits,
    )

pub returns-clause-ok : goal.returns-clause-ok
returns-clause-ok c =
    c.loop-chain.invariant.0
    ∙ ap (λ l. c.args.into.now.items ++ flat_map chain_text (map chain_view l))
    (copied_all _ _ _ refl c.loop-chain-test.false)

pub returns-clause-fits : goal.returns-clause-fits
returns-clause-fits c =
    ap (λ l. list_all fitting_chain (map chain_view l)) (sym (copied_all _ _ _ refl c.loop-chain-test.false))
    ∙ c.loop-chain.invariant.1
