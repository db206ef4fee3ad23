-- What contracts see of what comes for a query.
use Rattle.dns_saved_session.specs.declared.saved_reply.Came.{Came}
use Rattle.dns_saved_session.specs.declared.saved_reply.Came.TheVariants as came
use Rattle.dns_saved_session.specs.Saved.{CameValue, Message, Fault}

abbrev pub came_of : Came → CameValue
came_of (came.Message bytes) = Message bytes
came_of (came.Fault fault) = Fault fault
