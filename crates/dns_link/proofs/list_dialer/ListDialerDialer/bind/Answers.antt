use Rattle.dns_link.proofs.DialLemmas.{first_socket, first_socket_asked}
use Rattle.dns_link.proofs.list_dialer.ListDialerDialer.bind.Goals as goal

pub returns-clause-made : goal.returns-clause-made
returns-clause-made c = rw c.next_of-result.ensures.first (first_socket _ c.self.invariant.1)

pub returns-clause-unasked : goal.returns-clause-unasked
returns-clause-unasked c = rw c.next_of-result.ensures.first (first_socket_asked _ c.self.invariant.1)
