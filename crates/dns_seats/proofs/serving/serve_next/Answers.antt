use Rattle.std.proofs.Common.{refl, inl}
use Rattle.dns_seats.proofs.PortLemmas.{moves_none}
use Rattle.dns_seats.proofs.SeatLemmas.{answered, behind}
use Rattle.dns_seats.proofs.serving.serve_next.Goals as goal

pub returns-then-is_err : goal.returns-then-is_err
returns-then-is_err g c =
    let port = c.args.seat.now.port in
    inl (record {
      bare = inl (record {
        rests = record { set = record { protocol = refl; depth = refl }; moves = moves_none port port refl };
        validator = refl;
      });
      all = c.try_reserve.ensures.items;
    })

pub returns : goal.returns
returns g c =
    let m = c.answer_next.new.seat in
    answered c.args.seat.now m
    (record {
      port = c.send-sent.new.port;
      validator = m.validator;
      clock = m.clock;
      protocol = m.protocol;
      depth = m.depth;
    })
    c.args.exchanges.now.items c.push.new.self.items c.in_ok-exchange.exchange c.send-sent.result
    c.in_ok-exchange.ensures (record { protocol = refl; depth = refl }) refl c.send-sent.ensures
    (behind c.args.exchanges.now.items c.try_reserve.new.self.items c.push.new.self.items c.in_ok-exchange.exchange
    c.in-Ok.ensures.items c.try_reserve.ensures.items)
