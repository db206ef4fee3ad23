use Rattle.std.proofs.Common.{ap, ◌∙◌}
use Rattle.std.proofs.lemmas.Result.{IfOk-weaker}
use Rattle.dns_aggressive.specs.Groups.{group_at, items_or_none, lent}
use Rattle.dns_aggressive.proofs.nsec3_groups.Nsec3Groups.copies.Goals as goal

pub returns-in-Some : goal.returns-in-Some
returns-in-Some c = λ list h.
    IfOk-weaker c.copies_of.result _ _
    (λ v is. is ∙ ap lent c.deref.ensures.value ∙ ap items_or_none c.in-Some.ensures.value
    ∙ ap (group_at c.args.self.now.groups) c.way.view_is ∙ h.each c.args.way.now)
    c.copies_of.ensures

pub returns-in-None : goal.returns-in-None
returns-in-None c = λ list h.
    c.new.ensures.items ∙ ap items_or_none c.in-None.ensures.value ∙ ap (group_at c.args.self.now.groups) c.way.view_is
    ∙ h.each c.args.way.now
