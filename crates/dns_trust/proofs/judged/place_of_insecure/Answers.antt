use Rattle.std.proofs.Common.{map}
use Rattle.dns_rules.specs.Marks.{shows_insecure}
use Rattle.dns_rules.specs.ChainedSets.{ChainedVerdict}
use Rattle.dns_trust.specs.Verdicts.{verdict_value}
use Rattle.dns_trust.proofs.Searches.{position-map}
use Rattle.dns_trust.proofs.judged.place_of_insecure.Goals as goal

pub returns : goal.returns
returns c =
    let verdict = λ (v : ChainedVerdict). v.verdict in
    rw (
      position-map shows_insecure verdict (map verdict_value c.args.verdicts.now),
      position-map (λ v. shows_insecure v.verdict) verdict_value c.args.verdicts.now,
      ← c.first_insecure.ensures,
    )
    c.numbered.ensures
