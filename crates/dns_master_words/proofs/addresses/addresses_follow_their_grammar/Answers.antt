use Rattle.dns_master_words.proofs.AddressLaws.{by_grammar}
use Rattle.dns_master_words.proofs.addresses.addresses_follow_their_grammar.Goals as goal

pub returns : goal.returns
returns c = by_grammar c.args._word.now
