use Rattle.std.proofs.Common.{ap, sym, ◌∙◌, refl, inr}
use Rattle.dns_multiplexer.specs.Messages.{SerialMessageValue}
use Rattle.dns_tcp.specs.Frames.{frame}
use Rattle.dns_tcp.specs.Streams.{StreamValue}
use Rattle.dns_tcp.proofs.StepLemmas.{loaded_next, none_first, refused_by, some_first}
use Rattle.dns_tcp.proofs.stream_state.StreamState.load_next.Goals as goal

pub returns-in-None : goal.returns-in-None
returns-in-None c =
    let queue = ap (λ (s : StreamValue). s.queue) (sym c.self.view_is) in
    (c.requires, queue ∙ none_first _ c.in-None.ensures, refl)

pub returns-in-Err : goal.returns-in-Err
returns-in-Err c =
    let idle = rw (← c.self.view_is) at c.requires in
    (inr (rw (← c.self.view_is) (refused_by _ _ _ _ idle (some_first _ _ c.in-Some.ensures) c.in-Err.ensures)), refl)

pub returns-in_ok-load-in-Ok : goal.returns-in_ok-load-in-Ok
returns-in_ok-load-in-Ok c =
    let idle = rw (← c.self.view_is) at c.requires in
    let framed = c.in_ok-load-in-Ok.ensures.ok ∙ ap frame c.as_slice.ensures
    ∙ ap (λ (m : SerialMessageValue). frame m.bytes) c.message.view_is in
    rw (← c.self.view_is)
    (loaded_next _ _ _ _ _ idle (some_first _ _ c.in-Some.ensures) c.in-Ok.ensures c.pop.ensures.rest framed)
