use Rattle.std.proofs.Math.Facts.{Fits-lt-pow}
use Rattle.dns_record.proofs.ReadSteps.{is_bytes-from_reads}
use Rattle.dns_master_file.proofs.laws.known_bytes.Goals as goal

pub returns-clause-bytes : goal.returns-clause-bytes
returns-clause-bytes c = is_bytes-from_reads c.args.bytes.now (λ k. Fits-lt-pow (c.type_inv.bytes k))
