use Rattle.std.proofs.Common.{length, refl, ap, inl, inr, arith}
use Rattle.dns_seats.proofs.SeatLemmas.{keeps_goes, keeps_none, longer}
use Rattle.dns_seats.proofs.serving.serve_seat.Goals as goal

pub loop-next-init : goal.loop-next-init
loop-next-init g c = record {
  keeps = keeps_none c.args.job.seat c.new-exchanges.result.items c.new-exchanges.ensures.items;
  number = ap length c.new-exchanges.ensures.items;
}

pub loop-next-preserved : goal.loop-next-preserved
loop-next-preserved g c = record {
  keeps = keeps_goes c.loop-next.invariant.keeps c.in-Ok.ensures;
  number = longer c.loop-next.next c.in-Ok.ensures c.loop-next.invariant.number;
}

pub returns-in-Err : goal.returns-in-Err
returns-in-Err g c = record {
  middle = c.loop-next.seat;
  sent = c.loop-next.exchanges.items;
  keeps = c.loop-next.invariant.keeps;
  ends = inr (record {
    number = omega (arith, c.loop-next.invariant.number, c.loop-next-test.true);
    stops = c.in-Err.ensures;
  });
}

pub returns : goal.returns
returns g c = record {
  middle = c.loop-next.seat;
  sent = c.loop-next.exchanges.items;
  keeps = c.loop-next.invariant.keeps;
  ends = inl (record {
    number = omega (arith, c.loop-next.invariant.number, c.loop-next-test.false);
    why = refl;
    seat = refl;
    all = refl;
  });
}
