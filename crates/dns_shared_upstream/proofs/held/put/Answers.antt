use Rattle.std.proofs.Common.{ap}
use Rattle.dns_tcp.specs.Streams.{StreamValue}
use Rattle.dns_shared_upstream.proofs.StreamLemmas.{put_error}
use Rattle.dns_shared_upstream.proofs.held.put.Goals as goal

pub returns-clause-error : goal.returns-clause-error
returns-clause-error g c =
    put_error _ _ (record { bytes = _; addr = c.args.message.addr }) _ _ c.enqueue.result c.requires.room
    c.enqueue.ensures.put

pub returns-clause-failures : goal.returns-clause-failures
returns-clause-failures g c = ap (λ (s : StreamValue). s.failures) c.enqueue.ensures.kept

pub returns-clause-peer : goal.returns-clause-peer
returns-clause-peer g c = ap (λ (s : StreamValue). s.peer) c.enqueue.ensures.kept
