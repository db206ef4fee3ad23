use Rattle.std.proofs.Common.{◌≡◌, take}
use Rattle.dns_model.specs.Chains.{rdatas_of}
use Rattle.dns_trust.proofs.chains.rdatas_of.Given as goal

-- the rdatas so far are in the copy
abbrev pub invariant-loop-record : goal.invariant-loop-record
invariant-loop-record l = l.rdatas.items ≡ rdatas_of (take l.record-index l.records)
