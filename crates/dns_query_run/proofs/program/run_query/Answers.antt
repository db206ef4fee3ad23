use Rattle.std.proofs.Common.{refl}
use Rattle.dns_query_run.specs.Endings.{Came, OutOfMemory}
use Rattle.dns_query_run.specs.Told.{told_of}
use Rattle.dns_query_run.proofs.program.run_query.Goals as goal

pub returns-in-Ok-clause-ends : goal.returns-in-Ok-clause-ends
returns-in-Ok-clause-ends g c = Came (told_of c.in-Ok.told) c.in-Ok.ensures.tells c.write_told.ensures.ends

pub returns-in-Err-clause-ends : goal.returns-in-Err-clause-ends
returns-in-Err-clause-ends g c = OutOfMemory refl refl refl c.say.ensures.says
