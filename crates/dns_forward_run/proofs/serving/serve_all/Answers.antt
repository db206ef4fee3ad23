use Rattle.std.proofs.Common.{arith}
use Rattle.dns_forward_run.proofs.JudgedLemmas.{seats_answered}
use Rattle.dns_forward_run.proofs.SeatLemmas.{seat_lines}
use Rattle.dns_forward_run.proofs.serving.serve_all.Goals as goal

pub returns-clause-each : goal.returns-clause-each
returns-clause-each g c =
    seat_lines _ _ _ c.args.count c.args.seats.items c.in_ok-served.served.items c.requires.bound c.requires.unused
    (omega (arith, c.in_ok-served.ensures.len, c.in_ok-served.served.ok.0, c.args.seats.ok.0))
    c.in_ok-served.ensures.each

pub returns-clause-answered : goal.returns-clause-answered
returns-clause-answered g c =
    seats_answered _ _ _ c.args.count c.args.seats.items c.in_ok-served.served.items c.requires.silent
    (omega (arith, c.in_ok-served.ensures.len, c.in_ok-served.served.ok.0, c.args.seats.ok.0))
    c.in_ok-served.ensures.each
