use Rattle.std.proofs.Common.{ap, length, ◌∙◌}
use Rattle.dns_denial_index.specs.NsecParts.{numbered}
use Rattle.dns_denial_index.proofs.NsecParts.{numbered_covering}
use Rattle.dns_denial_index.proofs.StepBounds.{steps_within}
use Rattle.dns_denial_index.proofs.nsec_verdict.AskedNsecRecords.covering.Goals as goal

pub returns-clause-covering : goal.returns-clause-covering
returns-clause-covering g c =
    c.numbered.ensures ∙ ap (numbered c.args.self.now.index.now) c.found-found.ensures.covering
    ∙ numbered_covering c.args.name.now c.args.self.now.index.now

pub returns-clause-steps : goal.returns-clause-steps
returns-clause-steps g c =
    steps_within (length c.args.self.now.index.now) c.args.steps.now c.found-found.new.steps
    c.found-found.ensures.rises c.found-found.ensures.steps
