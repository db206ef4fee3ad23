use Rattle.dns_anchor_roll.proofs.Stretches.{stretch_law}
use Rattle.dns_anchor_roll.proofs.laws.stretch_of_trust.Goals as goal

pub returns : goal.returns
returns c = stretch_law
