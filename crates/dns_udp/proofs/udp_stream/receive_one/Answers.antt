use Rattle.std.proofs.Common.{◌≡◌, ℕ, List, ◌++◌, length, take, drop, None, Some, sym, ap, ◌∙◌, arith}
use Rattle.std.proofs.lemmas.Result.{err_from_is_err_and}
use Rattle.dns_model.proofs.Lists.{take-front}
use Rattle.dns_udp.proofs.StreamLemmas.{come_fault, come_none, come_some}
use Rattle.dns_udp.proofs.udp_stream.receive_one.Goals as goal

pub returns-in_err-len-clause-come : goal.returns-in_err-len-clause-come
returns-in_err-len-clause-come g c =
    let p = err_from_is_err_and c.from_residual.result c.from_residual.ensures.1 in
    rw p.1
    (come_fault (g.G.Datagrams.counts c.args.socket.now) (g.G.Datagrams.counts c.recv_from.new.self)
    (g.G.Datagrams.given c.args.socket.now) (g.G.Datagrams.given c.recv_from.new.self) _ p.0
    p.2 c.in_err-len.ensures.counts c.in_err-len.ensures.given)

pub returns-in_default-clause-come : goal.returns-in_default-clause-come
returns-in_default-clause-come g c =
    come_none (g.G.Datagrams.counts c.args.socket.now) (g.G.Datagrams.counts c.recv_from.new.self)
    (g.G.Datagrams.given c.args.socket.now)
    (g.G.Datagrams.given c.recv_from.new.self) _ c.recv_from.new.buf
    c.in_default.is c.in_ok-len.ensures.counts c.in_ok-len.ensures.given

pub returns-clause-come : goal.returns-clause-come
returns-clause-come g c =
    let room : length c.recv_from.new.buf ≡ c.args.buf.len =
    let a = c.recv_from.auto.buf in let b = c.deref_mut.ensures.len in first_of (cc, omega arith) in
    let front : take c.args.buf.len
    (c.recv_from.new.buf ++ drop (length c.recv_from.new.buf) c.args.buf.items) ≡ c.recv_from.new.buf =
    ap (λ (n : ℕ). take n (c.recv_from.new.buf ++ drop (length c.recv_from.new.buf) c.args.buf.items)) (sym room)
    ∙ take-front c.recv_from.new.buf (drop (length c.recv_from.new.buf) c.args.buf.items) in
    come_some (g.G.Datagrams.counts c.args.socket.now) (g.G.Datagrams.counts c.recv_from.new.self)
    (g.G.Datagrams.given c.args.socket.now) (g.G.Datagrams.given c.recv_from.new.self) _
    (c.in-Some.len, c.in-Some.from) c.recv_from.new.buf c.from_vec.result c.in-Some.is
    (c.from_vec.ensures ∙ c.truncate.ensures.items ∙ ap
    (λ (l : List ℕ). take c.in-Some.len l) front) c.in_ok-len.ensures.counts c.in_ok-len.ensures.given

pub returns-in_err-len-clause-asked : goal.returns-in_err-len-clause-asked
returns-in_err-len-clause-asked g c =
    let p = err_from_is_err_and c.from_residual.result c.from_residual.ensures.1 in
    rw p.1 (record { fault = Some _; told = c.in_err-len.ensures.calls; kind = p.2 })

pub returns-in_default-clause-asked : goal.returns-in_default-clause-asked
returns-in_default-clause-asked g c = record { fault = None; told = c.in_ok-len.ensures.calls; kind = tt }

pub returns-clause-asked : goal.returns-clause-asked
returns-clause-asked g c = record { fault = None; told = c.in_ok-len.ensures.calls; kind = tt }
