use Rattle.std.proofs.Common.{sym, ◌∙◌}
use Rattle.dns_validation.proofs.AcceptedLemmas.{holds_accepted}
use Rattle.dns_validation.proofs.keeping.holds_by_itself.Goals as goal

pub returns-then-holds-clause-accepted : goal.returns-then-holds-clause-accepted
returns-then-holds-clause-accepted g c =
    c.add.ensures (g.V.Verifier.answers c.args.context.now.judge.verifier.now) c.requires.accepted
    (holds_accepted _ _ _ c.args.placed.now c.args.entry.now (sym c.in_ok-holds.ensures ∙ c.if-holds.true))
