use Rattle.dns_message.specs.Lent.{message_value}
use Rattle.dns_message.proofs.MessageWriting.{given_again}
use Rattle.dns_message.proofs.message_ref.MessageRef.to_vec.Goals as goal

pub returns-clause-again : goal.returns-clause-again
returns-clause-again c = given_again (message_value c.args.self.now) c.encode.result c.encode.ensures
