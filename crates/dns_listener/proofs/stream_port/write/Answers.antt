use Rattle.std.proofs.Common.{inl}
use Rattle.std.proofs.lemmas.Result.{err_from_is_err_and}
use Rattle.dns_tcp.specs.Links.{link_view}
use Rattle.dns_tcp.specs.StreamViews.{link_of, state_of}
use Rattle.dns_listener.proofs.StreamLemmas.{written_on}
use Rattle.dns_listener.proofs.stream_port.write.Goals as goal

pub returns : goal.returns
returns g c =
    let seen = link_view g.L.Link.counts g.L.Link.given g.L.Link.left g.L.Link.taken g.L.Link.calls in
    written_on seen (link_of c.args.stream.now) (link_of c.drain_all.new.stream) (state_of c.args.stream.now)
    (state_of c.put.new.stream) (state_of c.drain_all.new.stream) c.args.bytes.now c.drain_all.result
    c.in_ok-put.ensures.queued (rw c.in_ok-put.ensures.link at c.drain_all.ensures)

pub returns-in_err-put : goal.returns-in_err-put
returns-in_err-put g c =
    let p = err_from_is_err_and c.from_residual.result c.from_residual.ensures.1 in
    rw (p.1, p.2) (inl (c.in_err-put.ensures.link, c.in_err-put.ensures.err))
