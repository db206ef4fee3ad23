use Rattle.dns_forwarded.proofs.ReadBackLemmas.{forwarded_again}
use Rattle.dns_forwarded.proofs.laws.replies_are_read_back.Goals as goal

pub returns : goal.returns
returns c = forwarded_again
