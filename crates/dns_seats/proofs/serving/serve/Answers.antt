use Rattle.std.proofs.Common.{arith}
use Rattle.dns_seats.proofs.ErrorLemmas.{errors_have_faults}
use Rattle.dns_seats.proofs.SeatLemmas.{in_place, same_length}
use Rattle.dns_seats.proofs.serving.serve.Goals as goal

pub returns-clause-each : goal.returns-clause-each
returns-clause-each g c =
    in_place c.args.count c.in_ok-jobs.jobs.items c.args.seats.items c.in_ok-served.served.items c.in_ok-jobs.ensures
    c.in_ok-served.ensures.each

pub returns-clause-errors : goal.returns-clause-errors
returns-clause-errors g c = λ i seat served short.
    errors_have_faults (in_place c.args.count c.in_ok-jobs.jobs.items c.args.seats.items c.in_ok-served.served.items
    c.in_ok-jobs.ensures c.in_ok-served.ensures.each i seat served short)

pub returns-clause-len : goal.returns-clause-len
returns-clause-len g c =
    omega (
      arith,
      c.in_ok-served.ensures.len,
      same_length c.in_ok-jobs.jobs.items c.args.seats.items c.in_ok-jobs.ensures,
      c.in_ok-jobs.jobs.ok.0,
      c.args.seats.ok.0,
    )
