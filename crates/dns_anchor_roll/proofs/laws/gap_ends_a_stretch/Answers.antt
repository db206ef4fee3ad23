use Rattle.dns_anchor_roll.proofs.Stretches.{gap_law}
use Rattle.dns_anchor_roll.proofs.laws.gap_ends_a_stretch.Goals as goal

pub returns : goal.returns
returns c = gap_law
