use Rattle.std.proofs.Common.{◌≤◌, ◌+◌, ap, arith, length, ◌∙◌}
use Rattle.dns_rules.specs.Nsec3Covering.{nsec3_covering}
use Rattle.dns_denial_index.specs.NsecParts.{numbered}
use Rattle.dns_denial_index.specs.Steps.{most_steps}
use Rattle.dns_denial_index.proofs.HashParts.{numbered_covering}
use Rattle.dns_denial_index.proofs.StepBounds.{steps_within}
use Rattle.dns_denial_index.proofs.nsec3_verdict.AskedNsec3Records.covering.Goals as goal

pub returns-clause-covering : goal.returns-clause-covering
returns-clause-covering g c =
    c.numbered.ensures ∙ ap (numbered c.self.inside.index.now) c.found-found.ensures.covering
    ∙ numbered_covering c.args.hash.now c.self.inside.index.now
    ∙ ap (nsec3_covering c.args.hash.now) c.self.view_is

pub returns-clause-steps : goal.returns-clause-steps
returns-clause-steps g c =
    let within : c.found-found.new.steps ≤ c.args.steps.now + most_steps (length c.self.inside.index.now) =
    steps_within (length c.self.inside.index.now) c.args.steps.now c.found-found.new.steps c.found-found.ensures.rises
    c.found-found.ensures.steps in
    omega (arith, within, ap (λ l. most_steps (length l)) c.self.view_is)
