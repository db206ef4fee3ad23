use Rattle.dns_anchor_roll.proofs.Stretches.{accept_law}
use Rattle.dns_anchor_roll.proofs.laws.trusted_before_accept.Goals as goal

pub returns : goal.returns
returns c = accept_law
