use Rattle.dns_record.proofs.codes.RecordType.of_own_word.Goals as goal

pub returns-in_err-number : goal.returns-in_err-number
returns-in_err-number c = rw c.from_residual.ensures c.in_err-number.ensures
