use Rattle.std.proofs.Common.{◌≡◌, take}
use Rattle.dns_evidence.proofs.link.clone_rdatas.Given as goal

-- the rdatas so far are in the copy
abbrev pub invariant-loop-rdata : goal.invariant-loop-rdata
invariant-loop-rdata l = l.all.items ≡ take l.rdata-index l.rdatas.items
