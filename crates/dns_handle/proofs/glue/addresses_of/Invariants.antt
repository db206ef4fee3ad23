use Rattle.dns_handle.proofs.GlueLemmas.{AreAddresses}
use Rattle.dns_handle.proofs.glue.addresses_of.Given as goal

-- the addresses of each name so far
abbrev pub invariant-loop-next : goal.invariant-loop-next
invariant-loop-next l = AreAddresses l.addresses l.yielded
