use Rattle.std.proofs.Common.{◌≤◌, ◌+◌, ap, arith, length, ◌∙◌}
use Rattle.std.specs.List.{find}
use Rattle.dns_rules.specs.Nsec3Covering.{nsec3_matches}
use Rattle.dns_denial_index.specs.NsecParts.{numbered}
use Rattle.dns_denial_index.specs.Steps.{most_steps}
use Rattle.dns_denial_index.proofs.Mapped.{numbered_position}
use Rattle.dns_denial_index.proofs.StepBounds.{steps_within}
use Rattle.dns_denial_index.proofs.nsec3_verdict.AskedNsec3Records.matching.Goals as goal

pub returns-clause-matching : goal.returns-clause-matching
returns-clause-matching g c =
    c.numbered.ensures ∙ ap (numbered c.self.inside.index.now) c.found-found.ensures.matching
    ∙ numbered_position (nsec3_matches c.args.hash.now) c.self.inside.index.now
    ∙ ap (find (nsec3_matches c.args.hash.now)) c.self.view_is

pub returns-clause-steps : goal.returns-clause-steps
returns-clause-steps g c =
    let within : c.found-found.new.steps ≤ c.args.steps.now + most_steps (length c.self.inside.index.now) =
    steps_within (length c.self.inside.index.now) c.args.steps.now c.found-found.new.steps c.found-found.ensures.rises
    c.found-found.ensures.steps in
    omega (arith, within, ap (λ l. most_steps (length l)) c.self.view_is)
