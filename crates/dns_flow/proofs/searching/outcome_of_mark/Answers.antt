use Rattle.dns_model.specs.SoundAnswers.{told_by}
use Rattle.dns_flow.proofs.Zones.{by_each_zone}
use Rattle.dns_flow.proofs.searching.outcome_of_mark.Goals as goal

pub returns : goal.returns
returns c = by_each_zone c.args.query.now (told_by c.args.message.now) c.args.mark _ c.outcome_by_zone.ensures
