use Rattle.std.proofs.Common.{rules, ◌∙◌, sym, ap, subst}
use Rattle.crossbeam_queue.specs.Passes.{view}
use Rattle.turns.specs.Turns.{Known}
use Rattle.turns.proofs.Steps.{splits}
use Rattle.dns_multiplexer.specs.Machine.{Settings}
use Rattle.dns_journal.specs.Entries.{Entry}
use Rattle.dns_shared_exchange.specs.Tokens.{IsKnown}
use Rattle.dns_shared_exchange.proofs.TokenLemmas.{newcomer_known}
use Rattle.dns_shared_exchange.proofs.shared_exchange.DnsExchange.split.Goals as goal

pub another-pass-requires-clause-rule : goal.another-pass-requires-clause-rule
another-pass-requires-clause-rule g c = splits c.token.inside.pass.id (view c.token.inside.pass) c.token.invariant.1

pub invariant_of-result : goal.invariant_of-result
invariant_of-result g c =
    let known : IsKnown (view c.another-pass.result) = subst (λ (k : Known Settings Entry). IsKnown k)
    (sym c.another-pass.ensures.rule.1) (newcomer_known (view c.token.inside.pass) c.token.invariant.2) in (
      search rules,
      ap (λ (k : Known Settings Entry). k.is_out) c.another-pass.ensures.rule.1 ∙ c.token.invariant.1,
      known,
    )

pub returns-clause-known : goal.returns-clause-known
returns-clause-known g c = subst (λ (k : Known Settings Entry). IsKnown k)
    (sym c.another-pass.ensures.rule.1) (newcomer_known (view c.token.inside.pass) c.token.invariant.2)
