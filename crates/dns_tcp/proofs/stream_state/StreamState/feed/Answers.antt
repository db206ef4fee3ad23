use Rattle.std.proofs.Common.{◌≡◌, ◌<◌, ap, ◌∙◌, arith}
use Rattle.dns_tcp.specs.Frames.{lacking}
use Rattle.dns_tcp.specs.Streams.{StreamValue}
use Rattle.dns_tcp.proofs.FeedLemmas.{open_kept, part_kept, unread_framed}
use Rattle.dns_tcp.proofs.StepLemmas.{fed}
use Rattle.dns_tcp.proofs.stream_state.StreamState.feed.Goals as goal

pub returns-clause-fed : goal.returns-clause-fed
returns-clause-fed g c =
    rw (c.note_feed.ensures, ← c.self.view_is) (fed _ _ _ _ _ _ c.feed_from-reply.ensures.fed c.if-self.false)

pub returns-clause-framed : goal.returns-clause-framed
returns-clause-framed g c =
    let kept : c.note_feed.new.self.part ≡ c.feed_from-reply.new.reader =
    ap (λ (s : StreamValue). s.part) c.note_feed.ensures ∙ part_kept _ _ in
    rw (kept, ← c.self.view_is) c.feed_from-reply.ensures.framed

pub returns-then-self-clause-framed : goal.returns-then-self-clause-framed
returns-then-self-clause-framed g c =
    let kept = ap (λ (s : StreamValue). s.part) c.count_fault.ensures in
    rw (kept, ← c.self.view_is) (unread_framed _ _ _ _)

pub returns-clause-open : goal.returns-clause-open
returns-clause-open g c = rw c.note_feed.ensures (open_kept _ _ c.if-self.false)

pub returns-clause-ready : goal.returns-clause-ready
returns-clause-ready g c =
    let kept : c.note_feed.new.self.part ≡ c.feed_from-reply.new.reader =
    ap (λ (s : StreamValue). s.part) c.note_feed.ensures ∙ part_kept _ _ in
    rw kept c.feed_from-reply.ensures.ready

pub returns-then-self-clause-ready : goal.returns-then-self-clause-ready
returns-then-self-clause-ready g c =
    let kept = ap (λ (s : StreamValue). lacking s.part) c.count_fault.ensures in
    let view = ap (λ (s : StreamValue). lacking s.part) c.self.view_is in
    let some : 0 < lacking c.self.inside.reader = c.self.invariant in
    omega (arith, kept, view)
