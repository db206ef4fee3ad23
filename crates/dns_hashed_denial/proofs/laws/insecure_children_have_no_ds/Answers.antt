use Rattle.dns_hashed_denial.proofs.UnsignedDelegations.{insecure_holds}
use Rattle.dns_hashed_denial.proofs.laws.insecure_children_have_no_ds.Goals as goal

pub returns : goal.returns
returns c = insecure_holds
