use Rattle.dns_journal.proofs.LawLemmas.{is_history}
use Rattle.dns_journal.proofs.laws.journals_are_histories.Goals as goal

pub returns : goal.returns
returns c = is_history
