use Rattle.dns_roll.proofs.OnceLaw.{once_law}
use Rattle.dns_roll.proofs.laws.written_once.Goals as goal

pub returns : goal.returns
returns c = once_law
