use Rattle.dns_audit.proofs.BehindLaw.{behind_is_read}
use Rattle.dns_audit.proofs.laws.a_report_is_read_behind_its_session.Goals as goal

pub returns : goal.returns
returns c = λ bytes s v read fits short. behind_is_read bytes s v read fits short
