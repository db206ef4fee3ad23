use Rattle.std.proofs.Common.{◌≤◌, ◌+◌, ap, arith, length}
use Rattle.dns_denial_index.specs.Steps.{most_steps}
use Rattle.dns_denial_index.proofs.StepBounds.{steps_within}
use Rattle.dns_denial_index.proofs.nsec3_verdict.AskedNsec3Records.wildcard_denies.Goals as goal

pub returns-clause-steps : goal.returns-clause-steps
returns-clause-steps g c =
    let within : c.wildcard_denies.new.steps ≤ c.args.steps.now + most_steps (length c.self.inside.index.now) =
    steps_within (length c.self.inside.index.now) c.args.steps.now c.wildcard_denies.new.steps
    c.wildcard_denies.ensures.rises
    c.wildcard_denies.ensures.steps in
    omega (arith, within, ap (λ l. most_steps (length l)) c.self.view_is)
