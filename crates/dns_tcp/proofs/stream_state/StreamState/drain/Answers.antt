use Rattle.std.proofs.Common.{ap, sym, ◌∙◌}
use Rattle.dns_tcp.specs.Streams.{StreamValue}
use Rattle.dns_tcp.proofs.StepLemmas.{drained}
use Rattle.dns_tcp.proofs.stream_state.StreamState.drain.Goals as goal

pub returns : goal.returns
returns g c =
    let open_ = ap (λ (s : StreamValue). s.failed) (sym c.self.view_is) ∙ c.if-self.false in
    rw c.note.ensures (drained _ _ _ _ _ _ c.try_drain-reply.ensures open_)
