use Rattle.std.proofs.Common.{◌≡◌, Bool, true, false, [], ap, sym, subst}
use Rattle.dns_multiplexer.specs.Messages.{SerialMessageValue}
use Rattle.dns_tcp.specs.Links.{link_view}
use Rattle.dns_tcp.specs.StreamViews.{link_of, state_of}
use Rattle.dns_tcp.specs.Reads.{sight}
use Rattle.dns_tcp.specs.Writes.{HasWritten}
use Rattle.dns_tcp.proofs.WriteLemmas.{message_on, no_message, put_written, written_none}
use Rattle.dns_tcp.proofs.writing.write_message.Goals as goal

not_both : (b : Bool) → b ≡ true → b ≡ false → ⊥
not_both true t f = cc
not_both false t f = cc

pub returns-clause-written : goal.returns-clause-written
returns-clause-written g c =
    let seen = link_view g.L.Link.counts g.L.Link.given g.L.Link.left g.L.Link.taken g.L.Link.calls in
    let is = ap (λ (m : SerialMessageValue). m.bytes) c.message.view_is in
    message_on seen (link_of c.args.stream.now) (link_of c.enqueue.new.self) (link_of c.drain_all.new.stream)
    (state_of c.args.stream.now) (state_of c.enqueue.new.self) (state_of c.drain_all.new.stream) c.args.message.bytes
    c.drain_all.result c.in_ok-enqueue.ensures.link
    (put_written (sight seen (link_of c.args.stream.now)) (state_of c.args.stream.now) (state_of c.enqueue.new.self)
    c.args.handle.now.addr c.args.message c.in_ok-enqueue.ensures.kept c.requires.peer
    (λ e.
    let none : c.message.inside.bytes ≡ [] = cc in
    not_both _ (c.is_empty.ensures.1 none) c.if-is_empty.false)
    c.in_ok-enqueue.ensures.put.1)
    c.drain_all.ensures

-- a message without a byte: nothing is written
pub returns-then-is_empty-clause-written : goal.returns-then-is_empty-clause-written
returns-then-is_empty-clause-written g c =
    let seen = sight (link_view g.L.Link.counts g.L.Link.given g.L.Link.left g.L.Link.taken g.L.Link.calls) (link_of c.args.stream.now) in
    let stream = state_of c.args.stream.now in
    let is = ap (λ (m : SerialMessageValue). m.bytes) c.message.view_is in
    let none = c.is_empty.ensures.0 c.if-is_empty.true in
    let empty : c.args.message.bytes ≡ [] = cc in
    record {
      out = subst (λ moved. HasWritten seen seen stream stream moved) (sym (no_message stream.peer c.args.message.bytes empty))
          (written_none seen stream);
      idle = c.requires.idle;
    }
