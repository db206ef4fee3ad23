use Rattle.std.proofs.Common.{◌∙◌}
use Rattle.std.proofs.lemmas.Result.{err_from_is_err_and}
use Rattle.dns_multiplexer.specs.Multiplexers.{machine_of}
use Rattle.dns_tcp.specs.StreamViews.{state_of}
use Rattle.dns_tcp.proofs.CarryLemmas.{carry_failed, carry_on, ours_at}
use Rattle.dns_tcp.proofs.LiveLemmas.{lives_on, same_lives}
use Rattle.dns_tcp.proofs.carrying.carry.Goals as goal

pub returns-in_err-write_out-clause-carried : goal.returns-in_err-write_out-clause-carried
returns-in_err-write_out-clause-carried g c = λ id moment open_ ours.
    let p = err_from_is_err_and c.from_residual.result c.from_residual.ensures.1 in
    rw (p.1, p.2) (carry_failed _ _ _ (state_of c.args.stream.now)
    (state_of c.write_out.new.stream) _ _ _ _ _ c.in_err-write_out.ensures.written
    (c.in_err-write_out.ensures.popped.is_shutdown ∙ open_))

pub returns-in_err-write_out-clause-lives : goal.returns-in_err-write_out-clause-lives
returns-in_err-write_out-clause-lives g c =
    same_lives (machine_of c.args.multiplexer.now).state (machine_of c.write_out.new.multiplexer).state
    c.in_err-write_out.ensures.popped.requests

pub returns-clause-carried : goal.returns-clause-carried
returns-clause-carried g c = λ id moment open_ ours.
    carry_on _ _ _ _ (state_of c.args.stream.now) (state_of c.write_out.new.stream)
    (state_of c.receive.new.stream) _ _ _ _ _ _ c.in_ok-write_out.ensures.written c.receive.ensures.going.outbound
    (c.receive.ensures.received id moment (c.in_ok-write_out.ensures.popped.is_shutdown ∙ open_)
    (ours_at _ _ _ _ _ c.in_ok-write_out.ensures.popped.requests ours))

pub returns-clause-settings : goal.returns-clause-settings
returns-clause-settings g c = c.receive.ensures.going.settings ∙ c.in_ok-write_out.ensures.popped.settings

pub returns-clause-lives : goal.returns-clause-lives
returns-clause-lives g c =
    lives_on (machine_of c.args.multiplexer.now).state (machine_of c.write_out.new.multiplexer).state
    (machine_of c.receive.new.multiplexer).state
    (same_lives (machine_of c.args.multiplexer.now).state (machine_of c.write_out.new.multiplexer).state
    c.in_ok-write_out.ensures.popped.requests)
    c.receive.ensures.going.lives
