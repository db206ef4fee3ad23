use Rattle.std.proofs.Common.{[], ◌∷◌, ◌++◌, Some, ap, ◌∙◌}
use Rattle.std.proofs.lemmas.Result.{err_from_is_err_and}
use Rattle.dns_multiplexer.specs.Multiplexers.{machine_of}
use Rattle.dns_multiplexer.specs.Queues.{StreamHandleValue}
use Rattle.dns_tcp.specs.Links.{link_view}
use Rattle.dns_tcp.specs.StreamViews.{link_of, state_of}
use Rattle.dns_tcp.proofs.WriteLemmas.{out_failed, out_more, parted_on, pop_first, pop_one, popped_on}
use Rattle.dns_tcp.proofs.writing.write_out.Goals as goal

pub message-preserved : goal.message-preserved
message-preserved g c =
    let seen = link_view g.L.Link.counts g.L.Link.given g.L.Link.left g.L.Link.taken g.L.Link.calls in
    record {
      popped = c.message.invariant.popped ++ c.in-Some.message ∷ [];
      parted = parted_on (machine_of c.args.multiplexer.now).state.outbound c.message.invariant.popped
          (machine_of c.message.multiplexer).state.outbound (machine_of c.pop_outbound.new.self).state.outbound
          c.in-Some.message c.message.invariant.parted
          (pop_first (machine_of c.message.multiplexer).settings (machine_of c.message.multiplexer).state
          (machine_of c.pop_outbound.new.self).state c.in-Some.message c.in-Some.ensures.popped);
      out = out_more seen (link_of c.args.stream.now) (link_of c.message.stream) (link_of c.write_message.new.stream)
          (state_of c.args.stream.now) (state_of c.message.stream) (state_of c.write_message.new.stream)
          c.message.invariant.popped c.in-Some.message c.message.invariant.out c.in_ok-write_message.ensures.written;
      handle = ap (λ (h : StreamHandleValue). h.addr) c.in_ok-write_message.ensures.handle ∙ c.message.invariant.handle;
      kept = popped_on (machine_of c.args.multiplexer.now) (machine_of c.message.multiplexer)
          (machine_of c.pop_outbound.new.self) c.message.invariant.kept
          (pop_one (machine_of c.message.multiplexer) (machine_of c.pop_outbound.new.self) (Some c.in-Some.message)
          c.in-Some.ensures.popped c.in-Some.ensures.kept);
      draws = c.in-Some.ensures.draws ∙ c.message.invariant.draws;
    }

pub returns-in_err-write_message-clause-written : goal.returns-in_err-write_message-clause-written
returns-in_err-write_message-clause-written g c =
    let seen = link_view g.L.Link.counts g.L.Link.given g.L.Link.left g.L.Link.taken g.L.Link.calls in
    let p = err_from_is_err_and c.from_residual-in_err-write_message.result
    c.from_residual-in_err-write_message.ensures.1 in
    rw (p.1, p.2) (out_failed seen (link_of c.args.stream.now) (link_of c.message.stream)
    (link_of c.write_message.new.stream) (state_of c.args.stream.now) (state_of c.message.stream)
    (state_of c.write_message.new.stream) c.message.invariant.popped c.in-Some.message c.message.invariant.out
    (machine_of c.args.multiplexer.now).state.outbound (machine_of c.message.multiplexer).state.outbound
    (machine_of c.pop_outbound.new.self).state.outbound c.in_err-write_message.field-0.0
    c.message.invariant.parted
    (pop_first (machine_of c.message.multiplexer).settings (machine_of c.message.multiplexer).state
    (machine_of c.pop_outbound.new.self).state c.in-Some.message c.in-Some.ensures.popped)
    c.in_err-write_message.ensures.written)
