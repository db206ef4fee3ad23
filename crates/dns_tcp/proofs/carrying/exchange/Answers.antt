use Rattle.std.proofs.Common.{refl, sym, ◌∙◌}
use Rattle.std.proofs.lemmas.Result.{err_from_is_err_and}
use Rattle.dns_multiplexer.specs.Multiplexers.{machine_of}
use Rattle.dns_tcp.specs.Exchanges.{Unconnected}
use Rattle.dns_tcp.proofs.CarryLemmas.{exchanged_refused, exchanged_sent}
use Rattle.dns_tcp.proofs.carrying.exchange.Goals as goal

pub returns-then-is_shutdown : goal.returns-then-is_shutdown
returns-then-is_shutdown g c = Unconnected (sym c.is_shutdown.ensures ∙ c.if-is_shutdown.true) refl refl

pub returns-in_err-number : goal.returns-in_err-number
returns-in_err-number g c =
    let p = err_from_is_err_and c.from_residual.result c.from_residual.ensures.1 in
    rw (p.1, p.2) (exchanged_refused _ _ _ _ _ _ _ _ _ (sym c.is_shutdown.ensures ∙ c.if-is_shutdown.false)
    c.in_err-number.ensures.sent refl refl refl c.in_err-number.ensures.kept refl)

pub returns : goal.returns
returns g c =
    exchanged_sent _ _ _ _ _ _ _ _ (machine_of c.send_message.new.self) (machine_of c.carry-reply.new.multiplexer) _
    (sym c.is_shutdown.ensures ∙ c.if-is_shutdown.false) c.in_ok-number.ensures.sent c.in_ok-number.ensures.kept
    (sym c.cancel.ensures.draws ∙ c.carry-reply.ensures.draws) c.carry-reply.ensures.carried
    c.carry-reply.ensures.settings c.carry-reply.ensures.lives c.cancel.ensures.cancelled c.cancel.ensures.kept
