use Rattle.std.proofs.Common.{[], inr, true, None, refl, sym, ◌∙◌, arith}
use Rattle.std.proofs.lemmas.Result.{err_from_is_err_and}
use Rattle.dns_link.specs.Counts.{no_counts}
use Rattle.dns_udp.specs.Met.{dialer_view}
use Rattle.dns_udp.specs.Sendings.{asked_by, plan_of}
use Rattle.dns_udp.proofs.AskLemmas.{asks_nothing}
use Rattle.dns_udp.proofs.HoldLemmas.{holds_none}
use Rattle.dns_udp.proofs.WaitLemmas.{first_failed, first_opened, going_parts, over_in_vain, over_parts}
use Rattle.dns_udp.proofs.waiting.wait.Goals as goal

pub returns-in_err-open_more-clause-stopped : goal.returns-in_err-open_more-clause-stopped
returns-in_err-open_more-clause-stopped g c =
    let p = err_from_is_err_and c.from_residual.result c.from_residual.ensures.1 in
    rw (p.1, p.2)
    (first_failed g.D.Datagrams.Datagrams.counts g.D.Datagrams.Datagrams.given g.R.Draws.draws_port
    (asked_by c.args.sending.now)
    (dialer_view g.D.Dialer.counts g.D.Dialer.given_datagrams c.args.dial.now)
    (dialer_view g.D.Dialer.counts g.D.Dialer.given_datagrams c.open_more.new.dial)
    c.args.draws.now c.open_more.new.draws c.open_more.new.sockets.items _ c.open_more.ensures.ports
    (c.in_err-open_more.ensures.opens (dialer_view g.D.Dialer.counts g.D.Dialer.given_datagrams c.args.dial.now) [] no_counts
    (rw c.requires.none
    (holds_none g.D.Datagrams.Datagrams.counts g.D.Datagrams.Datagrams.given
    (dialer_view g.D.Dialer.counts g.D.Dialer.given_datagrams c.args.dial.now)))))

pub returns-in_err-open_more-clause-asked : goal.returns-in_err-open_more-clause-asked
returns-in_err-open_more-clause-asked g c =
    let p = err_from_is_err_and c.from_residual.result c.from_residual.ensures.1 in
    rw (p.1, p.2)
    (c.in_err-open_more.ensures.asked (g.D.Dialer.calls c.args.dial.now) c.args.draws.now None
    (asks_nothing (plan_of g.D.Datagrams.Datagrams.calls g.R.Draws.draws_port c.args.sending.now) (g.D.Dialer.calls c.args.dial.now)
    c.args.draws.now c.args.sockets.now.items c.requires.none))

pub turns-init : goal.turns-init
turns-init g c = (
  first_opened g.D.Datagrams.Datagrams.counts g.D.Datagrams.Datagrams.given g.R.Draws.draws_port
      (asked_by c.args.sending.now)
      (dialer_view g.D.Dialer.counts g.D.Dialer.given_datagrams c.args.dial.now)
      (dialer_view g.D.Dialer.counts g.D.Dialer.given_datagrams c.open_more.new.dial)
      c.args.draws.now c.open_more.new.draws c.open_more.new.sockets.items c.open_more.ensures.ports
      (c.in_ok-open_more.ensures.opens (dialer_view g.D.Dialer.counts g.D.Dialer.given_datagrams c.args.dial.now) [] no_counts
      (rw c.requires.none
      (holds_none g.D.Datagrams.Datagrams.counts g.D.Datagrams.Datagrams.given
      (dialer_view g.D.Dialer.counts g.D.Dialer.given_datagrams c.args.dial.now)))),
  c.in_ok-open_more.ensures.some,
  omega arith,
  c.in_ok-open_more.ensures.asked (g.D.Dialer.calls c.args.dial.now) c.args.draws.now None
      (asks_nothing (plan_of g.D.Datagrams.Datagrams.calls g.R.Draws.draws_port c.args.sending.now) (g.D.Dialer.calls c.args.dial.now)
      c.args.draws.now c.args.sockets.now.items c.requires.none),
)

pub take_turn-requires-clause-turn : goal.take_turn-requires-clause-turn
take_turn-requires-clause-turn g c = c.turns.invariant.1

pub turns-smaller : goal.turns-smaller
turns-smaller g c = c.in-None.ensures.less

pub turns-preserved : goal.turns-preserved
turns-preserved g c = (
  c.in-None.ensures.ends (dialer_view g.D.Dialer.counts g.D.Dialer.given_datagrams c.args.dial.now) c.args.draws.now
      c.turns.invariant.0,
  c.in-None.ensures.turn,
  c.in-None.ensures.most,
  c.in-None.ensures.asked (g.D.Dialer.calls c.args.dial.now) c.args.draws.now c.turns.invariant.3.0 c.turns.invariant.3.1,
)

pub returns-in-Some-clause-asked : goal.returns-in-Some-clause-asked
returns-in-Some-clause-asked g c =
    c.in-Some.ensures.asked (g.D.Dialer.calls c.args.dial.now) c.args.draws.now c.turns.invariant.3.0 c.turns.invariant.3.1

pub returns-in-Some-clause-stopped : goal.returns-in-Some-clause-stopped
returns-in-Some-clause-stopped g c =
    c.in-Some.ensures.ends (dialer_view g.D.Dialer.counts g.D.Dialer.given_datagrams c.args.dial.now) c.args.draws.now
    c.turns.invariant.0

pub take_turn-requires-clause-time : goal.take_turn-requires-clause-time
take_turn-requires-clause-time g c = (going_parts _ _ _ (sym c.goes_on.ensures.going ∙ c.turns-test.true)).0

pub take_turn-requires-clause-few : goal.take_turn-requires-clause-few
take_turn-requires-clause-few g c = (going_parts _ _ _ (sym c.goes_on.ensures.going ∙ c.turns-test.true)).1

pub returns-clause-asked : goal.returns-clause-asked
returns-clause-asked g c = inr (true, None, c.turns.invariant.3.0, c.turns.invariant.3.1, inr (refl, refl))

pub returns-clause-stopped : goal.returns-clause-stopped
returns-clause-stopped g c =
    over_in_vain g.D.Datagrams.Datagrams.counts g.D.Datagrams.Datagrams.given g.R.Draws.draws_port
    (asked_by c.args.sending.now)
    (dialer_view g.D.Dialer.counts g.D.Dialer.given_datagrams c.args.dial.now)
    (dialer_view g.D.Dialer.counts g.D.Dialer.given_datagrams c.turns.dial)
    c.args.draws.now c.turns.draws c.turns.sockets.items c.turns.progress.elapsed
    c.turns.progress.ignored c.turns.invariant.0 c.turns.invariant.2
    (over_parts _ _ _ (sym c.goes_on.ensures.going ∙ c.turns-test.false))

pub take_turn-requires-clause-range : goal.take_turn-requires-clause-range
take_turn-requires-clause-range g c = c.goes_on.ensures.range
