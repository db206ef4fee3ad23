use Rattle.std.proofs.Common.{ap, sym, ◌∙◌}
use Rattle.dns_rules.specs.Covering.{is_silent_on}
use Rattle.dns_denial_index.proofs.NsecParts.{silent_some, covering_some}
use Rattle.dns_denial_index.proofs.nsec_index.unless_silent.Goals as goal

pub returns-then-is_silent_on : goal.returns-then-is_silent_on
returns-then-is_silent_on c =
    sym (silent_some c.args.name.now c.args.nsecs.now c.in_ok-number.number c.index-nsecs-number.result (sym c.requires
    ∙ c.in_ok-number.was)
    (ap (is_silent_on c.args.name.now) (sym c.index-nsecs-number.is) ∙ sym c.is_silent_on.ensures
    ∙ c.if-is_silent_on.true))

pub returns : goal.returns
returns c =
    sym (covering_some c.args.name.now c.args.nsecs.now c.in_ok-number.number c.index-nsecs-number.result
    (sym c.requires ∙ c.in_ok-number.was)
    (ap (is_silent_on c.args.name.now) (sym c.index-nsecs-number.is) ∙ sym c.is_silent_on.ensures
    ∙ c.if-is_silent_on.false))
