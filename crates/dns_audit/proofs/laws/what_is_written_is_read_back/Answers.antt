use Rattle.dns_audit.proofs.WrittenLaw.{written_is_read}
use Rattle.dns_audit.proofs.laws.what_is_written_is_read_back.Goals as goal

pub returns : goal.returns
returns c = λ v fits short. written_is_read v fits short
