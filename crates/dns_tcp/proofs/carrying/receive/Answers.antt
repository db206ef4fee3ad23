use Rattle.std.proofs.Common.{◌≡◌, ◌<◌, ◌+◌, ◌-◌, refl, ap, ◌∙◌, arith}
use Rattle.std.proofs.lemmas.Result.{err_from_is_err_and}
use Rattle.dns_multiplexer.specs.Draws.{CoreValue}
use Rattle.dns_tcp.proofs.LiveLemmas.{going_close, going_none, going_on}
use Rattle.dns_tcp.proofs.ReceiveLemmas.{never_ended, receive_end, receive_failed, receive_first, receive_lost, receive_more, receive_none}
use Rattle.dns_tcp.proofs.carrying.receive.Goals as goal

pub message-init : goal.message-init
message-init g c = record {
  ours = λ id moment open_ ours. ours;
  open_still = refl;
  later = λ id moment new stream is_shutdown reply open_ ours received. received;
  going = going_none _;
  draws = refl;
}

pub message-preserved : goal.message-preserved
message-preserved g c = record {
  ours = λ id moment open_ ours.
      ((rw (c.in_default-2.is, c.as_slice.ensures) at c.in_ok-reply.ensures.offered) id moment
      (c.message.invariant.ours id moment open_ ours)).1;
  open_still = c.in_ok-reply.ensures.shutdown ∙ c.message.invariant.open_still;
  later = λ id moment new stream is_shutdown reply open_ ours received.
      let size : c.message.left ≡ (c.message.left - 1) + 1 = omega arith in
      let next = rw c.in-Some.is at c.in_ok-message.ensures in
      let own = (rw (c.in_default-2.is, c.as_slice.ensures) at c.in_ok-reply.ensures.offered) id moment
      (c.message.invariant.ours id moment open_ ours) in
      c.message.invariant.later id moment new stream is_shutdown reply open_ ours
      (receive_more _ _ _ _ _ _ _ _ next.0 next.1 _ _ _ _ _ own.0 size received);
  going = going_on _ _ _ c.message.invariant.going c.in_ok-reply.ensures.going;
  draws = c.in_ok-reply.ensures.draws ∙ c.message.invariant.draws;
}

pub returns-in_err-message-clause-received : goal.returns-in_err-message-clause-received
returns-in_err-message-clause-received g c = λ id moment open_ ours.
    let some : 0 < c.message.left = omega arith in
    let p = err_from_is_err_and c.from_residual.result c.from_residual.ensures.1 in
    rw (p.1, p.2)
    (c.message.invariant.later id moment _ _ _ _ open_ ours
    (receive_failed _ _ _ _ _ _ _ _ _ c.in_err-message.ensures some (c.message.invariant.open_still ∙ open_)))

pub returns-in_err-message-clause-going : goal.returns-in_err-message-clause-going
returns-in_err-message-clause-going g c = c.message.invariant.going

pub returns-in_err-message-clause-ended : goal.returns-in_err-message-clause-ended
returns-in_err-message-clause-ended g c = λ open_ shut. never_ended _ _ (c.message.invariant.open_still ∙ open_) shut

pub returns-in_default-clause-received : goal.returns-in_default-clause-received
returns-in_default-clause-received g c = λ id moment open_ ours.
    let some : 0 < c.message.left = omega arith in
    c.message.invariant.later id moment _ _ _ _ open_ ours
    (receive_end _ _ _ _ _ _ _ _ (rw c.in_default.is at c.in_ok-message.ensures) some (ap (λ
    (core : CoreValue). core.is_shutdown) c.close.ensures.kept))

pub returns-in_default-clause-going : goal.returns-in_default-clause-going
returns-in_default-clause-going g c =
    going_on _ _ _ c.message.invariant.going (going_close _ _ _ c.close.ensures.closed c.close.ensures.kept)

pub returns-in_default-clause-ended : goal.returns-in_default-clause-ended
returns-in_default-clause-ended g c = λ open_ shut.
    record { before = _; going = c.message.invariant.going; closed = c.close.ensures.closed }

pub returns-in_err-reply-clause-received : goal.returns-in_err-reply-clause-received
returns-in_err-reply-clause-received g c = λ id moment open_ ours.
    let some : 0 < c.message.left = omega arith in
    let next = rw c.in-Some.is at c.in_ok-message.ensures in
    let p = err_from_is_err_and c.from_residual-in_err-reply.result c.from_residual-in_err-reply.ensures.1 in
    rw (p.1, p.2)
    (c.message.invariant.later id moment _ _ _ _ open_ ours
    (receive_lost _ _ _ _ _ _ _ _ _ next.0 some (c.in_err-reply.ensures.shutdown ∙ c.message.invariant.open_still ∙ open_)))

pub returns-in_err-reply-clause-going : goal.returns-in_err-reply-clause-going
returns-in_err-reply-clause-going g c = going_on _ _ _ c.message.invariant.going c.in_err-reply.ensures.going

pub returns-in_err-reply-clause-ended : goal.returns-in_err-reply-clause-ended
returns-in_err-reply-clause-ended g c = λ open_ shut.
    never_ended _ _ (c.in_err-reply.ensures.shutdown ∙ c.message.invariant.open_still ∙ open_) shut

pub returns-in-Some-2-clause-received : goal.returns-in-Some-2-clause-received
returns-in-Some-2-clause-received g c = λ id moment open_ ours.
    let some : 0 < c.message.left = omega arith in
    let next = rw c.in-Some.is at c.in_ok-message.ensures in
    let own = (rw (c.in-Some-2.is, c.as_slice.ensures) at c.in_ok-reply.ensures.offered) id moment
    (c.message.invariant.ours id moment open_ ours) in
    c.message.invariant.later id moment _ _ _ _ open_ ours
    (receive_first _ _ _ _ _ _ _ _ _ _ _ next.0 some own.1 own.2
    (c.in_ok-reply.ensures.shutdown ∙ c.message.invariant.open_still ∙ open_) own.3)

pub returns-in-Some-2-clause-going : goal.returns-in-Some-2-clause-going
returns-in-Some-2-clause-going g c = going_on _ _ _ c.message.invariant.going c.in_ok-reply.ensures.going

pub returns-in-Some-2-clause-ended : goal.returns-in-Some-2-clause-ended
returns-in-Some-2-clause-ended g c = λ open_ shut.
    never_ended _ _ (c.in_ok-reply.ensures.shutdown ∙ c.message.invariant.open_still ∙ open_) shut

pub returns-clause-received : goal.returns-clause-received
returns-clause-received g c = λ id moment open_ ours.
    let none : c.message.left ≡ 0 = omega arith in
    c.message.invariant.later id moment _ _ _ _ open_ ours
    (receive_none _ _ _ _ _ _ none (c.message.invariant.open_still ∙ open_))

pub returns-clause-going : goal.returns-clause-going
returns-clause-going g c = c.message.invariant.going

pub returns-clause-ended : goal.returns-clause-ended
returns-clause-ended g c = λ open_ shut. never_ended _ _ (c.message.invariant.open_still ∙ open_) shut
