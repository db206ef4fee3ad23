use Rattle.std.proofs.Common.{rules, ◌≡◌, map, Some, ap, ◌∙◌}
use Rattle.dns_rules.specs.ChainedSets.{bare_verdicts}
use Rattle.dns_rules.proofs.ChainedLemmas.{chained_by-bare}
use Rattle.dns_trust.specs.Verdicts.{verdict_value}
use Rattle.dns_trail.specs.Entries.{verdicts_of_set}
use Rattle.dns_trail.specs.StepContexts.{step_context_by}
use Rattle.dns_trail.proofs.EntryLemmas.{signed_given}
use Rattle.dns_trail.proofs.entries.judged_signed.Goals as goal

pub returns : goal.returns
returns g c =
    let gr = step_context_by g.V.Verifier.answers c.args.context.now in
    let vs = map verdict_value c.in-Some.verdicts.items in
    let found : Some (bare_verdicts vs) ≡ verdicts_of_set gr c.args.placed.set c.args.entry.now.asked = search rules in
    c.as_in_entry.ensures
    ∙ signed_given c.args.placed c.in_ok-set.set.judged c.args.entry.now (bare_verdicts vs)
    (verdicts_of_set gr c.args.placed.set c.args.entry.now.asked)
    (ap (λ x. x.judged) c.in_ok-set.ensures ∙ chained_by-bare c.args.placed vs) found
