use Rattle.std.proofs.Common.{Some, inr, refl}
use Rattle.std.proofs.lemmas.Result.{err_from_is_err_and}
use Rattle.dns_udp.proofs.open_sockets.send_on.Goals as goal

pub returns-in_err-taken-clause-asked : goal.returns-in_err-taken-clause-asked
returns-in_err-taken-clause-asked g c =
    let p = err_from_is_err_and c.from_residual.result c.from_residual.ensures.1 in
    rw p.1
    (record {
      fault = Some c.in_err-taken.field-0.0;
      told = c.in_err-taken.ensures.calls;
      kind = inr (c.in_err-taken.field-0.0, p.2, refl);
    })
