use Rattle.std.proofs.Common.{ap, length, ◌∙◌}
use Rattle.dns_rules.specs.NsecVerdict.{is_owned_by}
use Rattle.dns_denial_index.specs.NsecParts.{numbered}
use Rattle.dns_denial_index.proofs.Mapped.{numbered_position}
use Rattle.dns_denial_index.proofs.NsecParts.{numbered_covering}
use Rattle.dns_denial_index.proofs.StepBounds.{steps_within}
use Rattle.dns_denial_index.proofs.nsec_verdict.AskedNsecRecords.of_name.Goals as goal

pub returns-in-Some-clause-owned : goal.returns-in-Some-clause-owned
returns-in-Some-clause-owned g c =
    c.in-Some.ensures ∙ ap (numbered c.args.self.now.index.now) c.found-found.ensures.owned
    ∙ numbered_position (is_owned_by c.args.name.now) c.args.self.now.index.now

pub returns-in-Some-clause-steps : goal.returns-in-Some-clause-steps
returns-in-Some-clause-steps g c =
    steps_within (length c.args.self.now.index.now) c.args.steps.now c.found-found.new.steps
    c.found-found.ensures.rises c.found-found.ensures.steps

pub returns-in-Some-numbered-clause-owned : goal.returns-in-Some-numbered-clause-owned
returns-in-Some-numbered-clause-owned g c =
    c.in_default.ensures ∙ ap (numbered c.args.self.now.index.now) c.found-found.ensures.owned
    ∙ numbered_position (is_owned_by c.args.name.now) c.args.self.now.index.now

pub returns-in-Some-numbered-clause-covered : goal.returns-in-Some-numbered-clause-covered
returns-in-Some-numbered-clause-covered g c = λ none.
    c.in-Some-numbered.ensures ∙ ap (numbered c.args.self.now.index.now) c.found-found.ensures.covering
    ∙ numbered_covering c.args.name.now c.args.self.now.index.now

pub returns-in-Some-numbered-clause-steps : goal.returns-in-Some-numbered-clause-steps
returns-in-Some-numbered-clause-steps g c =
    steps_within (length c.args.self.now.index.now) c.args.steps.now c.found-found.new.steps
    c.found-found.ensures.rises c.found-found.ensures.steps

pub returns-in-None-clause-owned : goal.returns-in-None-clause-owned
returns-in-None-clause-owned g c =
    c.in_default.ensures ∙ ap (numbered c.args.self.now.index.now) c.found-found.ensures.owned
    ∙ numbered_position (is_owned_by c.args.name.now) c.args.self.now.index.now

pub returns-in-None-clause-covered : goal.returns-in-None-clause-covered
returns-in-None-clause-covered g c = λ none.
    c.in-None.ensures ∙ ap (numbered c.args.self.now.index.now) c.found-found.ensures.covering
    ∙ numbered_covering c.args.name.now c.args.self.now.index.now

pub returns-in-None-clause-steps : goal.returns-in-None-clause-steps
returns-in-None-clause-steps g c =
    steps_within (length c.args.self.now.index.now) c.args.steps.now c.found-found.new.steps
    c.found-found.ensures.rises c.found-found.ensures.steps
