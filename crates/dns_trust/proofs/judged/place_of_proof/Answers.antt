use Rattle.std.proofs.Common.{map}
use Rattle.dns_rules.specs.Marks.{is_proved}
use Rattle.dns_rules.specs.ChainedSets.{ChainedVerdict}
use Rattle.dns_trust.specs.Verdicts.{verdict_value}
use Rattle.dns_trust.proofs.Searches.{position-map}
use Rattle.dns_trust.proofs.judged.place_of_proof.Goals as goal

pub returns : goal.returns
returns c =
    let verdict = λ (v : ChainedVerdict). v.verdict in
    rw (
      position-map is_proved verdict (map verdict_value c.args.verdicts.now),
      position-map (λ v. is_proved v.verdict) verdict_value c.args.verdicts.now,
      ← c.first_proof.ensures,
    )
    c.numbered.ensures
