use Rattle.std.proofs.Common.{◌∙◌, sym}
use Rattle.dns_evidence.proofs.Within.{same_decides}
use Rattle.dns_evidence.proofs.listed.ListedVerifier.same.Goals as goal

pub returns-clause-alike : goal.returns-clause-alike
returns-clause-alike c =
    λ h. (same_decides c.args.self.now c.args.other.now).0 (sym c.holds_same.ensures ∙ h)

pub returns-clause-says : goal.returns-clause-says
returns-clause-says c = rw c.holds_same.ensures (same_decides c.args.self.now c.args.other.now)

pub returns-clause-exact : goal.returns-clause-exact
returns-clause-exact c = rw c.holds_same.ensures (same_decides c.args.self.now c.args.other.now)
