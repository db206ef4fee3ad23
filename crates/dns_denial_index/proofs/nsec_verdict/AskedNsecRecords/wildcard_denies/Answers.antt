use Rattle.std.proofs.Common.{length}
use Rattle.dns_denial_index.proofs.StepBounds.{steps_within}
use Rattle.dns_denial_index.proofs.nsec_verdict.AskedNsecRecords.wildcard_denies.Goals as goal

pub returns-clause-steps : goal.returns-clause-steps
returns-clause-steps g c =
    steps_within (length c.args.self.now.index.now) c.args.steps.now c.wildcard_denies.new.steps
    c.wildcard_denies.ensures.rises
    c.wildcard_denies.ensures.steps
