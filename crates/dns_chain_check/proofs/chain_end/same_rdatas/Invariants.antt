use Rattle.std.proofs.Common.{◌≡◌, length}
use Rattle.dns_model.specs.Chains.{rdatas_of, same_rdatas}
use Rattle.dns_chain_check.proofs.chain_end.same_rdatas.Given as goal

-- what is left decides
abbrev pub invariant-records : goal.invariant-records
invariant-records l = same_rdatas (rdatas_of l.records) l.rdatas ≡ same_rdatas (rdatas_of l.fn.records) l.fn.rdatas

abbrev pub decreases-records : goal.decreases-records
decreases-records l = length l.records
