use Rattle.dns_anchor_roll.proofs.Stretches.{revoked_law}
use Rattle.dns_anchor_roll.proofs.laws.revoked_for_good.Goals as goal

pub returns : goal.returns
returns c = revoked_law
