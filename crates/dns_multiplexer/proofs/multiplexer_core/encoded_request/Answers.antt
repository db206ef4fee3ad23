use Rattle.dns_multiplexer.proofs.CoreLemmas.{encoded_long, encoded_short}
use Rattle.dns_multiplexer.proofs.multiplexer_core.encoded_request.Goals as goal

pub returns-in-Ok-clause-long : goal.returns-in-Ok-clause-long
returns-in-Ok-clause-long c = encoded_long c.request.inside.message c.in-Ok.bytes c.in-Ok.ensures.exact

pub returns-in-Ok-clause-short : goal.returns-in-Ok-clause-short
returns-in-Ok-clause-short c = encoded_short c.request.inside.message c.in-Ok.bytes c.in-Ok.ensures.exact
