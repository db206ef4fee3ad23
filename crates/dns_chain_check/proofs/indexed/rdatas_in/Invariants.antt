use Rattle.std.proofs.Common.{take}
use Rattle.dns_chain_check.specs.Indexed.{Holds}
use Rattle.dns_chain_check.proofs.indexed.rdatas_in.Given as goal

-- the rdatas so far are held
abbrev pub invariant-loop-rdata : goal.invariant-loop-rdata
invariant-loop-rdata l = Holds l.members (take l.rdata-index l.rdatas)
