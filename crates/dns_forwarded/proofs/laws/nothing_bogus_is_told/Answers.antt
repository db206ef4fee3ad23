use Rattle.dns_forwarded.proofs.LawLemmas.{reply_clean}
use Rattle.dns_forwarded.proofs.laws.nothing_bogus_is_told.Goals as goal

pub returns : goal.returns
returns c = reply_clean
