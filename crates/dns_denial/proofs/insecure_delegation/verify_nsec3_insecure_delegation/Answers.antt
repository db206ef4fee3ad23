use Rattle.std.proofs.Common.{sym, ◌∙◌}
use Rattle.dns_hashed_denial.proofs.UnsignedDelegations.{insecure_holds}
use Rattle.dns_denial.proofs.insecure_delegation.verify_nsec3_insecure_delegation.Goals as goal

pub returns-clause-insecure : goal.returns-clause-insecure
returns-clause-insecure c h = insecure_holds c.args.child.now c.args.nsec3s.now (sym c.shows_insecure_delegation.ensures ∙ h)
