-- What contracts see of what comes in reply.
use Rattle.dns_session.specs.declared.reply.ReplyKind.{ReplyKind}
use Rattle.dns_session.specs.declared.reply.ReplyKind.TheVariants as told
use Rattle.dns_session.specs.SessionValue.{ReplyKindValue, Message, Empty, Fault}

abbrev pub kind_of : ReplyKind → ReplyKindValue
kind_of (told.Message message) = Message message
kind_of (told.Empty message) = Empty message
kind_of (told.Fault fault) = Fault fault
