use Rattle.std.proofs.Common.{◌+◌, length}
use Rattle.dns_denial_index.proofs.StepBounds.{searches_within}
use Rattle.dns_denial_index.proofs.nsec3_index.Nsec3Index.verify.Goals as goal

pub returns-clause-steps : goal.returns-clause-steps
returns-clause-steps g c =
    searches_within (length c.args.query.now.owner + 3) (length c.args.self.now) c.args.steps.now
    c.nsec3_verdict.new.notes
    c.nsec3_verdict.ensures.steps
