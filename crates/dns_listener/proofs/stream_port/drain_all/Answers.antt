use Rattle.std.proofs.lemmas.Result.{err_from_is_err_and}
use Rattle.dns_tcp.proofs.WriteLemmas.{write_failed, write_last, write_more, written_none}
use Rattle.dns_listener.proofs.stream_port.drain_all.Goals as goal

pub write-init : goal.write-init
write-init g c = written_none _ _

pub returns-then-branch : goal.returns-then-branch
returns-then-branch g c =
    write_last _ _ _ _ _ _ _ c.write.invariant (rw c.if-branch.true at c.in_ok-drain.ensures.drained)
    (rw c.if-branch.true at c.in_ok-drain.ensures.written) (rw c.if-branch.true at c.in_ok-drain.ensures.answer.cause)

pub write-preserved : goal.write-preserved
write-preserved g c =
    write_more _ _ _ _ _ _ _ c.write.invariant _ c.in_ok-drain.ensures.drained c.in_ok-drain.ensures.written

pub returns-in_err-drain : goal.returns-in_err-drain
returns-in_err-drain g c =
    let p = err_from_is_err_and c.from_residual.result c.from_residual.ensures.1 in
    rw (p.1, p.2) (write_failed _ _ _ _ _ _ _ c.write.invariant _ c.in_err-drain.ensures.drained)
