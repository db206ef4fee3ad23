use Rattle.dns_roll.proofs.Exact.{exact_law}
use Rattle.dns_roll.proofs.laws.exactly_trusted.Goals as goal

pub returns : goal.returns
returns c = exact_law
