use Rattle.std.proofs.Common.{[], ◌∷◌, subst}
use Rattle.dns_link.specs.Calls.{fault_of}
use Rattle.dns_multiplexer.specs.Messages.{SerialMessageValue}
use Rattle.dns_udp.specs.Streams.{AreSent}
use Rattle.dns_udp.proofs.udp_stream.send_one.Goals as goal

pub returns-clause-asked : goal.returns-clause-asked
returns-clause-asked g c =
    subst
    (λ (m : SerialMessageValue). AreSent (m ∷ []) (g.G.Datagrams.calls c.args.socket.now) (g.G.Datagrams.calls c.send_to.new.self))
    c.message.view_is
    (record { fault = fault_of c.send_to.result; told = rw c.as_slice.ensures at c.send_to.ensures.calls })
