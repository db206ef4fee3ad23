use Rattle.dns_link.proofs.DialLemmas.{first_link, first_link_asked}
use Rattle.dns_link.proofs.list_dialer.ListDialerDialer.connect.Goals as goal

pub returns-clause-made : goal.returns-clause-made
returns-clause-made c = rw c.next_of-result.ensures.first (first_link _ c.self.invariant.0)

pub returns-clause-unasked : goal.returns-clause-unasked
returns-clause-unasked c = rw c.next_of-result.ensures.first (first_link_asked _ c.self.invariant.0)
