use Rattle.dns_audit.proofs.RespelledLaw.{read_is_respelled, read_fits, read_is_short}
use Rattle.dns_audit.proofs.laws.what_is_read_is_what_would_be_written.Goals as goal

pub returns-clause-written : goal.returns-clause-written
returns-clause-written c = λ text r read. read_is_respelled text r read

pub returns-clause-fits : goal.returns-clause-fits
returns-clause-fits c = λ text r read. read_fits text r read

pub returns-clause-short : goal.returns-clause-short
returns-clause-short c = λ text r read. read_is_short text r read
