use Rattle.std.proofs.Common.{rules, ◌≡◌, Some, ◌∙◌}
use Rattle.std.specs.Option.{option_map}
use Rattle.dns_rules.specs.Derivation.{search_from}
use Rattle.dns_rules.specs.Unsigned.{set_start}
use Rattle.dns_trail.specs.StepContexts.{step_context_by}
use Rattle.dns_trail.specs.Trying.{zone_proof}
use Rattle.dns_trail.proofs.EntryLemmas.{unsigned_given}
use Rattle.dns_trail.proofs.entries.judged_unsigned.Goals as goal

pub returns-in-Some : goal.returns-in-Some
returns-in-Some g c =
    let gr = step_context_by g.V.Verifier.answers c.args.context.now in
    let found : Some c.in-Some.mark
    ≡ option_map zone_proof (search_from gr c.args.placed.set.class (set_start c.args.placed.set) c.args.entry.now.asked) =
    search rules in
    c.as_in_entry.ensures
    ∙ unsigned_given gr c.args.placed c.unsigned_set.result.judged c.args.entry.now c.in-Some.mark c.unsigned_set.ensures.judged found
