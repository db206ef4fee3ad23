use Rattle.dns_multiplexer.proofs.HistoryLemmas.{told_by_history}
use Rattle.dns_multiplexer.proofs.laws.states_are_what_histories_say.Goals as goal

pub returns : goal.returns
returns c = told_by_history
