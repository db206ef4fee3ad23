use Rattle.dns_hashed_denial.proofs.HashedPromises.{denial_holds}
use Rattle.dns_hashed_denial.proofs.laws.secure_denials_hold_in_each_zone.Goals as goal

pub returns : goal.returns
returns c = denial_holds
