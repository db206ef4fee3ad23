use Rattle.dns_hashed_denial.proofs.HashedExpansions.{expansion_holds}
use Rattle.dns_hashed_denial.proofs.laws.secure_expansions_hold_in_each_zone.Goals as goal

pub returns : goal.returns
returns c = expansion_holds
