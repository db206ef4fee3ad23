use Rattle.std.proofs.Common.{◌++◌, List, ℕ, ap, sym, ◌∙◌}
use Rattle.std.proofs.lemmas.Result.{err_from_is_err_and}
use Rattle.dns_multiplexer.specs.Messages.{SerialMessageValue}
use Rattle.dns_tcp.specs.StreamViews.{link_of}
use Rattle.dns_tcp.proofs.SureLemmas.{closed_end, err_told, more_moves, next_used}
use Rattle.dns_tcp.proofs.frame_law.next_message.Goals as goal

pub frame-preserved : goal.frame-preserved
frame-preserved c = (
  sym (next_used _ _ _ _ _ (rw c.in-More.is at c.in_ok-feed.ensures.framed)) ∙ c.frame.invariant.0,
  (c.in_ok-feed.ensures.open, c.in_ok-feed.ensures.ready),
)

pub frame-smaller : goal.frame-smaller
frame-smaller c = more_moves _ _ _ _ (rw c.in-More.is at c.in_ok-feed.ensures.fed)

pub returns-in-Message-clause-next : goal.returns-in-Message-clause-next
returns-in-Message-clause-next c =
    let bytes = ap (λ (m : SerialMessageValue). m.bytes) c.message.view_is in
    rw bytes (
      sym c.frame.invariant.0 ∙ next_used _ _ _ _ _ (rw c.in-Message.is at c.in_ok-feed.ensures.framed),
      rw c.in-Message.is at c.in_ok-feed.ensures.fits,
      (c.in_ok-feed.ensures.open, c.in_ok-feed.ensures.ready),
    )

pub returns-in-Closed-clause-next : goal.returns-in-Closed-clause-next
returns-in-Closed-clause-next c =
    let end = closed_end _ _ _ _ (rw c.in-Closed.is at c.in_ok-feed.ensures.fed) in
    sym c.frame.invariant.0 ∙ ap (λ (part : List ℕ). part ++ (link_of c.frame.stream).pieces.left) end.0 ∙ end.1

pub returns-in_err-feed-clause-err : goal.returns-in_err-feed-clause-err
returns-in_err-feed-clause-err c =
    let p = err_from_is_err_and c.from_residual.result c.from_residual.ensures.1 in
    rw (p.1, p.2, ← c.frame.invariant.0) (err_told _ _ _ _ _ c.frame.invariant.1.0 c.frame.invariant.1.1 c.in_err-feed.ensures.fed)
