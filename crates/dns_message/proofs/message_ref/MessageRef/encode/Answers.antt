use Rattle.std.proofs.Common.{◌∙◌, sym, inr}
use Rattle.dns_message.specs.Lent.{message_value}
use Rattle.dns_message.proofs.Writing.{too_many}
use Rattle.dns_message.proofs.message_ref.MessageRef.encode.Goals as goal

pub returns-then-has_many : goal.returns-then-has_many
returns-then-has_many c = inr (too_many (message_value c.args.self.now) (sym c.has_many.ensures ∙ c.if-has_many.true))
