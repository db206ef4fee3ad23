use Rattle.dns_multiplexer.proofs.LawLemmas.{told_reply}
use Rattle.dns_multiplexer.proofs.laws.replies_are_what_histories_say.Goals as goal

pub returns : goal.returns
returns c = told_reply
