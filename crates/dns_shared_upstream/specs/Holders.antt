-- For private functions only: what a holder's parts are worth.
use Rattle.dns_multiplexer.specs.declared.draws.Draws as draws
use Rattle.dns_shared_upstream.specs.declared.holder.Holder.{Holder}
use Rattle.dns_shared_upstream.specs.Sends.{HolderValue, holding}

abbrev pub value_of : {R G : Type 0} {ids : draws.Ghosts R} → Holder R G ids → HolderValue
value_of holder = holding holder.token holder.share.amount
