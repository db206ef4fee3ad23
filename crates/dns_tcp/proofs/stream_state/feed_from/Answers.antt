use Rattle.std.proofs.Common.{◌≡◌, ◌<◌, Bool, false, true, refl, arith}
use Rattle.std.proofs.lemmas.Result.{err_from_is_err_and}
use Rattle.dns_tcp.proofs.FeedLemmas.{closed_reply, cut_reply, fed_bytes, fed_end, fed_fault, framed_read, unread_framed}
use Rattle.dns_tcp.proofs.stream_state.feed_from.Goals as goal

not_both : (b : Bool) → b ≡ true → b ≡ false → ⊥
not_both true t f = cc
not_both false t f = cc

pub returns-in_err-outcome-clause-framed : goal.returns-in_err-outcome-clause-framed
returns-in_err-outcome-clause-framed g c =
    let p = err_from_is_err_and c.from_residual.result c.from_residual.ensures.1 in
    rw (c.in_err-outcome.ensures.link, c.in_err-outcome.ensures.bytes, p.1) (unread_framed _ _ _ _)

pub returns-in-Err-clause-fed : goal.returns-in-Err-clause-fed
returns-in-Err-clause-fed g c =
    rw c.from.ensures (fed_fault _ _ _ _ _ _ _ (rw c.in-Err.is at c.in_ok-outcome.ensures.read))

pub returns-in-Err-clause-framed : goal.returns-in-Err-clause-framed
returns-in-Err-clause-framed g c =
    framed_read _ _ _ _ _ _ _ _ _ (rw c.in-Err.is at c.in_ok-outcome.ensures.read) tt

pub returns-then-count-gt0-clause-fed : goal.returns-then-count-gt0-clause-fed
returns-then-count-gt0-clause-fed g c =
    let some : 0 < c.in-Ok.count = omega arith in
    fed_bytes _ _ _ _ _ _ _ _ _ (rw c.in-Ok.is at c.in_ok-outcome.ensures.read) some
    c.frame_reply.ensures.reply c.frame_reply.ensures.rest

pub returns-then-count-gt0-clause-framed : goal.returns-then-count-gt0-clause-framed
returns-then-count-gt0-clause-framed g c =
    framed_read _ _ _ _ _ _ _ _ _ (rw c.in-Ok.is at c.in_ok-outcome.ensures.read) c.frame_reply.ensures.framed

pub returns-then-was_empty-clause-fed : goal.returns-then-was_empty-clause-fed
returns-then-was_empty-clause-fed g c =
    let none : c.in-Ok.count ≡ 0 = omega arith in
    fed_end _ _ _ _ _ _ _ (rw (c.in-Ok.is, none) at c.in_ok-outcome.ensures.read)
    (closed_reply _ (c.is_empty-was_empty.ensures.0 c.if-was_empty.true))

pub returns-then-was_empty-clause-framed : goal.returns-then-was_empty-clause-framed
returns-then-was_empty-clause-framed g c =
    framed_read _ _ _ _ _ _ _ _ _ (rw c.in-Ok.is at c.in_ok-outcome.ensures.read) refl

pub returns-else-was_empty-clause-fed : goal.returns-else-was_empty-clause-fed
returns-else-was_empty-clause-fed g c =
    let none : c.in-Ok.count ≡ 0 = omega arith in
    fed_end _ _ _ _ _ _ _ (rw (c.in-Ok.is, none) at c.in_ok-outcome.ensures.read)
    (cut_reply _ (λ e. not_both _ (c.is_empty-was_empty.ensures.1 e) c.if-was_empty.false))

pub returns-else-was_empty-clause-framed : goal.returns-else-was_empty-clause-framed
returns-else-was_empty-clause-framed g c =
    framed_read _ _ _ _ _ _ _ _ _ (rw c.in-Ok.is at c.in_ok-outcome.ensures.read) tt
