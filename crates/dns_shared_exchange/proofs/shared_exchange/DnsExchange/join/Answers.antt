use Rattle.std.proofs.Common.{rules, ◌≡◌, ◌∙◌, sym, ap, subst}
use Rattle.crossbeam_queue.specs.Passes.{view}
use Rattle.turns.specs.Turns.{Known, IsSound, joined}
use Rattle.turns.proofs.Steps.{joins, learns}
use Rattle.dns_multiplexer.specs.Machine.{Settings}
use Rattle.dns_journal.specs.Entries.{Entry}
use Rattle.dns_shared_exchange.specs.Tokens.{IsKnown}
use Rattle.dns_shared_exchange.proofs.TokenLemmas.{joined_known}
use Rattle.dns_shared_exchange.proofs.shared_exchange.DnsExchange.join.Goals as goal

pub absorb-requires-clause-rule : goal.absorb-requires-clause-rule
absorb-requires-clause-rule g c =
    joins c.a.inside.pass.id (view c.a.inside.pass) c.b.inside.pass.id (view c.b.inside.pass) c.a.invariant.1 c.b.invariant.1

pub learn_as-requires-clause-rule : goal.learn_as-requires-clause-rule
learn_as-requires-clause-rule g c = learns c.absorb.new.pass.id (view c.absorb.new.pass)

pub invariant_of-result : goal.invariant_of-result
invariant_of-result g c =
    let is : view c.learn_as.new.pass ≡ joined (view c.a.inside.pass) (view c.b.inside.pass) =
    c.learn_as.ensures.queue.1 ∙ c.absorb.ensures.rule in
    let sound : IsSound (joined (view c.a.inside.pass) (view c.b.inside.pass)) =
    subst (λ (k : Known Settings Entry). IsSound k) c.absorb.ensures.rule c.learn_as.ensures.rule.1 in (
      search rules,
      ap (λ (k : Known Settings Entry). k.is_out) is,
      subst (λ (k : Known Settings Entry). IsKnown k) (sym is)
          (joined_known (view c.a.inside.pass) (view c.b.inside.pass) c.a.invariant.2 c.b.invariant.2 sound),
    )

pub returns-clause-known : goal.returns-clause-known
returns-clause-known g c =
    let is : view c.learn_as.new.pass ≡ joined (view c.a.inside.pass) (view c.b.inside.pass) =
    c.learn_as.ensures.queue.1 ∙ c.absorb.ensures.rule in
    let sound : IsSound (joined (view c.a.inside.pass) (view c.b.inside.pass)) =
    subst (λ (k : Known Settings Entry). IsSound k) c.absorb.ensures.rule c.learn_as.ensures.rule.1 in
    subst (λ (k : Known Settings Entry). IsKnown k) (sym is)
    (joined_known (view c.a.inside.pass) (view c.b.inside.pass) c.a.invariant.2 c.b.invariant.2 sound)
