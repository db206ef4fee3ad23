use Rattle.dns_forwarded.proofs.LawLemmas.{forwarded_authentic}
use Rattle.dns_forwarded.proofs.laws.authentic_replies_are_secure.Goals as goal

pub returns : goal.returns
returns c = forwarded_authentic
