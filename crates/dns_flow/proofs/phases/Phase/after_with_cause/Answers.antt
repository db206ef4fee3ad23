use Rattle.std.proofs.Common.{sym, ap, ◌∙◌}
use Rattle.std.specs.Option.{option_map}
use Rattle.dns_cache.specs.Kinds.{kind_value}
use Rattle.dns_rules.specs.ChainedSets.{bare}
use Rattle.dns_rules.specs.Delegations.{zone_verdict}
use Rattle.dns_trust.specs.Judge.{judge_of}
use Rattle.dns_trust.specs.ZoneRows.{row_of}
use Rattle.dns_flow.specs.Causes.{cause_after, sought_cause}
use Rattle.dns_flow.specs.Values.{got_value, phase_value}
use Rattle.dns_flow.proofs.Founds.{sought}
use Rattle.dns_flow.proofs.phases.Phase.after_with_cause.Goals as goal

pub returns-in_ok-cause-in-AtZone-clause-cause : goal.returns-in_ok-cause-in-AtZone-clause-cause
returns-in_ok-cause-in-AtZone-clause-cause g c =
    let j = judge_of g.V.Verifier.answers c.args.judge.now in
    let at = c.in-AtZone in
    let got = got_value c.args.got in
    let cause = kind_value c.args.cause in
    c.in_ok-cause-in-AtZone.ensures
    ∙ ap (λ row. sought_cause at.seeker at.class.0 at.zone row cause) c.in_ok-row-in-AtZone.ensures
    ∙ ap (λ o. sought_cause at.seeker at.class.0 at.zone (row_of (zone_verdict j.answers at.class.0 at.zone (option_map bare o))) cause)
    c.into_answer-in-AtZone.ensures
    ∙ sought j at.seeker at.class.0 at.zone got cause
    ∙ ap (λ p. cause_after j (phase_value p) got cause) (sym at.is)
