use Rattle.dns_saved_lookup.proofs.InTurnLemmas.{saved_serves}
use Rattle.dns_saved_lookup.proofs.laws.each_reply_comes_in_its_turn.Goals as goal

pub returns : goal.returns
returns c = λ s. saved_serves s
