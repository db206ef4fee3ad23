use Rattle.std.proofs.Common.{length}
use Rattle.dns_denial_index.proofs.StepBounds.{searches_within}
use Rattle.dns_denial_index.proofs.nsec_index.NsecIndex.verify.Goals as goal

pub returns-clause-steps : goal.returns-clause-steps
returns-clause-steps g c =
    searches_within 2 (length c.args.self.now) c.args.steps.now c.nsec_verdict.new.notes c.nsec_verdict.ensures.steps
