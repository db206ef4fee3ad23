use Rattle.dns_message.proofs.NameReading.{spelled_is}
use Rattle.dns_message.proofs.name_reader.push_spelled.Goals as goal

pub returns-clause-field : goal.returns-clause-field
returns-clause-field c = spelled_is _ _ _ _ _ c.in_ok-next.ensures.name
