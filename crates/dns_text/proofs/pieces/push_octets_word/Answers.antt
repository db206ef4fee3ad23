use Rattle.std.proofs.Math.Facts.{Fits-lt-pow}
use Rattle.dns_record.proofs.ReadSteps.{is_bytes-from_reads}
use Rattle.dns_text.proofs.pieces.push_octets_word.Goals as goal

pub returns-in_err-push-clause-fits : goal.returns-in_err-push-clause-fits
returns-in_err-push-clause-fits c = is_bytes-from_reads c.args.bytes.now (λ k. Fits-lt-pow (c.type_inv.bytes k))

pub returns-clause-fits : goal.returns-clause-fits
returns-clause-fits c = is_bytes-from_reads c.args.bytes.now (λ k. Fits-lt-pow (c.type_inv.bytes k))
